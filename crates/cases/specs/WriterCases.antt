-- The second table, the writer: what it answers, and what a buffer holds afterwards.
use Rattle.std.specs.Prelude.{refl, List, [], ◌∷◌, ◌++◌, ℕ, set, take, replicate}
use Rattle.vocabulary.specs.Least.{least, all}
use Rattle.vocabulary.specs.First.{first_of}
use Rattle.vocabulary.specs.Total.{total}
use Rattle.vocabulary.specs.Table.{join}
use Rattle.vocabulary.specs.Multiple.{lcm, lcm_of}
use Rattle.kinds.specs.Limits.{holds, rises}
use Rattle.kinds.specs.Editions.{edition_of}
use Rattle.kinds.specs.Tasks.{Set, pairs_in}
use Rattle.kinds.specs.Cycle.{cycle, jobs_of, jobs_before, jobs, cycle_fits}
use Rattle.kinds.specs.Links.{common, repeats, links_of, links, spans_of, links_in}
use Rattle.kinds.specs.Sound.{attributes_fit, task_fits, pair_key, pair_fits, pattern_key, heading_fits, pattern_fits, opening_fits, sound}
use Rattle.numbers.specs.Numbers.{number_at, number_bytes, held, got_at, and_then}
use Rattle.heads.specs.Tables.{times_from, task_from, on_task, tasks_from, two_at, on_two, pairs_from, count_from, heading_at}
use Rattle.heads.specs.Tables.{on_heading, on_pairs, pattern_from, on_pattern, patterns_from}
use Rattle.heads.specs.Heads.{opening_of, middle_from, on_opening, on_tasks, on_middle, on_patterns, head_from}
use Rattle.reader.specs.Files.{take_head, taken_of}
use Rattle.slots.specs.High.{high}
use Rattle.writer.specs.Format.{head_numbers, bytes_in, head_bytes, bytes_of}
use Rattle.writer.specs.Writing.{rules, written_of, left_in, write_for, written_head, write_head_for}
use Rattle.cases.specs.Samples.{small, small_head, small_slots}
use Rattle.cases.specs.Questions.{Row, Answered, writes, reply, task_numbers, raw_headings, raw_pairs, lent_set}
use Rattle.cases.specs.Questions as ask

-- the set of the small file, of an edition
of_edition : ℕ → Set
of_edition e = lent_set e 1 ((2, 1, 0, 2) ∷ (4, 1, 0, 3) ∷ []) ((0, 1, 1) ∷ []) ((0, 0) ∷ [])

-- numbers on both sides of 128
wide : Set
wide = lent_set 1 1 ((128, 1, 0, 128) ∷ (128, 127, 127, 128) ∷ []) [] []

-- two patterns, the second with two pairs, and more pairs than count
linked : Set
linked = lent_set 1 1 ((2, 1, 0, 2) ∷ (4, 1, 0, 4) ∷ (4, 1, 0, 4) ∷ []) ((0, 1, 1) ∷ (0, 2, 2) ∷ []) ((0, 0) ∷ (0, 0) ∷ (1, 0) ∷ (9, 9) ∷ [])

-- a buffer of n bytes
buffer : ℕ → List ℕ
buffer n = replicate n 0xEE

pub writer_cases : List Row
writer_cases =
    -- A buffer of just the file's length, one that is longer, and one that is a byte too short; one of no bytes.
    (ask.writing (of_edition 1) small_slots (buffer 21), writes (0 ∷ 21 ∷ []) small)
    ∷ (ask.writing (of_edition 1) small_slots (buffer 23), writes (0 ∷ 21 ∷ []) (small ++ (0xEE ∷ 0xEE ∷ [])))
    ∷ (ask.writing (of_edition 1) small_slots (buffer 20), writes (18 ∷ []) (buffer 20))
    ∷ (ask.writing (of_edition 1) small_slots [], writes (18 ∷ []) [])
    -- 12 before 18, 11 before 12 and 10 before 11; of two slots that are too high the lower is shown.
    ∷ (ask.writing (of_edition 1) (1 ∷ 3 ∷ 1 ∷ 3 ∷ []) (buffer 20), writes (12 ∷ 1 ∷ []) (buffer 20))
    ∷ (ask.writing (of_edition 1) (1 ∷ 3 ∷ 1 ∷ []) (buffer 20), writes (11 ∷ []) (buffer 20))
    ∷ (ask.writing (of_edition 3) (1 ∷ 3 ∷ 1 ∷ []) (buffer 20), writes (10 ∷ []) (buffer 20))
    -- A set keeps its edition.
    ∷ (ask.writing (of_edition 2) small_slots (buffer 21), writes (0 ∷ 21 ∷ []) (set small 0 2))
    ∷ (ask.writing_head (set (set small_head 0 2) 16 1) small_slots (buffer 21), writes (0 ∷ 21 ∷ []) (set (set small 0 2) 16 1))
    ∷ (ask.writing_head (set small_head 16 1) small_slots (buffer 21), writes (10 ∷ []) (buffer 21))
    -- Numbers from 128 on have two bytes.
    ∷ (
      ask.writing wide (replicate 128 2) (buffer 144),
      writes (0 ∷ 144 ∷ [])
          ((1 ∷ 2 ∷ 1 ∷ 0x80 ∷ 1 ∷ 1 ∷ 0 ∷ 0x80 ∷ 1 ∷ 0x80 ∷ 1 ∷ 127 ∷ 127 ∷ 0x80 ∷ 1 ∷ 0 ∷ []) ++ replicate 128 2),
    )
    -- The pairs of a pattern stand behind it; what is beyond the counts is not written.
    ∷ (
      ask.writing linked (1 ∷ 2 ∷ 1 ∷ 3 ∷ []) (buffer 33),
      writes (0 ∷ 32 ∷ [])
          (1 ∷ 3 ∷ 1
          ∷ 2 ∷ 1 ∷ 0 ∷ 2 ∷ 4 ∷ 1 ∷ 0 ∷ 4 ∷ 4 ∷ 1 ∷ 0 ∷ 4
          ∷ 2 ∷ 0 ∷ 1 ∷ 1 ∷ 0 ∷ 0 ∷ 0 ∷ 2 ∷ 2 ∷ 0 ∷ 0 ∷ 1 ∷ 0
          ∷ 1 ∷ 2 ∷ 1 ∷ 3 ∷ 0xEE ∷ []),
    )
    -- By a head: what was read is written as it was; a byte more or less, and 10.
    ∷ (ask.writing_head small_head small_slots (buffer 22), writes (0 ∷ 21 ∷ []) (small ++ (0xEE ∷ [])))
    ∷ (ask.writing_head small_head small_slots (buffer 20), writes (18 ∷ []) (buffer 20))
    ∷ (ask.writing_head small_head (1 ∷ 2 ∷ 1 ∷ 0x80 ∷ []) (buffer 22), writes (12 ∷ 3 ∷ []) (buffer 22))
    ∷ (ask.writing_head (small_head ++ (0 ∷ [])) small_slots (buffer 22), writes (10 ∷ []) (buffer 22))
    ∷ (ask.writing_head (take 16 small_head) small_slots (buffer 22), writes (10 ∷ []) (buffer 22))
    ∷ []

-- ==== The writer's definition answers each of them so.
pub writer_cases_lem : Answered writer_cases
unfolding writer_cases of_edition wide linked buffer small small_head small_slots reply task_numbers raw_headings
    raw_pairs lent_set least all first_of total join lcm lcm_of holds rises pairs_in cycle jobs_of jobs_before jobs cycle_fits common
    repeats links_of links edition_of spans_of links_in attributes_fit task_fits pair_key pair_fits pattern_key heading_fits pattern_fits opening_fits sound
    number_at number_bytes held got_at and_then times_from task_from on_task tasks_from two_at on_two pairs_from count_from heading_at on_heading
    on_pairs pattern_from on_pattern patterns_from opening_of middle_from on_opening on_tasks on_middle on_patterns head_from take_head taken_of high
    head_numbers bytes_in head_bytes bytes_of rules written_of left_in write_for written_head write_head_for
writer_cases_lem = refl
