-- The second table, the reader: every refusal number with its place, and every reason for it.
use Rattle.std.specs.Prelude.{refl, List, [], ◌∷◌, ◌++◌, ℕ, zero, suc, ◌+◌, set, take, replicate}
use Rattle.vocabulary.specs.Least.{least, all}
use Rattle.vocabulary.specs.Total.{total}
use Rattle.vocabulary.specs.Table.{table}
use Rattle.vocabulary.specs.Multiple.{lcm, lcm_of}
use Rattle.kinds.specs.Limits.{holds, rises}
use Rattle.kinds.specs.Editions.{edition_of}
use Rattle.kinds.specs.Cycle.{cycle, jobs_of, jobs_before, jobs, cycle_fits}
use Rattle.kinds.specs.Links.{spans_of, links_in}
use Rattle.numbers.specs.Numbers.{number_at, held, got_at, and_then}
use Rattle.heads.specs.Tables.{times_from, task_from, on_task, tasks_from, two_at, on_two, pairs_from, count_from, heading_at, on_heading, on_pairs}
use Rattle.heads.specs.Tables.{pattern_from, on_pattern, patterns_from}
use Rattle.heads.specs.Heads.{opening_of, middle_from, on_opening, on_tasks, on_middle, on_patterns, head_from}
use Rattle.slots.specs.High.{high}
use Rattle.reader.specs.Files.{slots_from, on_slots, on_head, read_of}
use Rattle.cases.specs.Samples.{small, from_seven, to_seven}
use Rattle.cases.specs.Questions.{Row, Answered, says, reply, task_numbers}
use Rattle.cases.specs.Questions as ask

-- ---- files to change a number of
-- three tasks and three patterns, from 0 to 1 at 16 with two pairs, from 0 to 2 at 23, from 1 to 2 at 28; four slots at 33
patterned : List ℕ
patterned =
    1 ∷ 3 ∷ 1
    ∷ 2 ∷ 1 ∷ 0 ∷ 2
    ∷ 4 ∷ 1 ∷ 0 ∷ 4
    ∷ 4 ∷ 1 ∷ 0 ∷ 4
    ∷ 3
    ∷ 0 ∷ 1 ∷ 2 ∷ 0 ∷ 0 ∷ 1 ∷ 0
    ∷ 0 ∷ 2 ∷ 1 ∷ 1 ∷ 0
    ∷ 1 ∷ 2 ∷ 1 ∷ 0 ∷ 0
    ∷ 0 ∷ 0 ∷ 0 ∷ 0 ∷ []

-- periods 2 and 3: the pairs (0, 1) and (1, 0) at 15 and 17, six slots at 19
coprime : List ℕ
coprime =
    1 ∷ 2 ∷ 1
    ∷ 2 ∷ 1 ∷ 0 ∷ 2
    ∷ 3 ∷ 1 ∷ 0 ∷ 3
    ∷ 1 ∷ 0 ∷ 1 ∷ 2 ∷ 0 ∷ 1 ∷ 1 ∷ 0
    ∷ 0 ∷ 0 ∷ 0 ∷ 0 ∷ 0 ∷ 0 ∷ []

-- from a place on other bytes
from : List ℕ → ℕ → List ℕ → List ℕ
from file at bytes = take at file ++ bytes

-- a pattern with the pair (0, 0), before others
one_pair : List ℕ → ℕ → ℕ → List ℕ
one_pair rest x y = x ∷ y ∷ 1 ∷ 0 ∷ 0 ∷ rest

-- task 0 with period 128 and seven tasks with period 1, without a pattern count: 36 bytes
eight : List ℕ
eight = 1 ∷ 8 ∷ 1 ∷ 128 ∷ 1 ∷ 1 ∷ 0 ∷ 1 ∷ task_numbers (replicate 7 (1, 1, 0, 1))

-- n such patterns among the seven, from pattern k on
among_seven : ℕ → ℕ → List ℕ
among_seven k zero = []
among_seven k (suc n) = one_pair (among_seven (k + 1) n) (from_seven k) (to_seven k)

-- ---- the table
pub reader_cases : List Row
reader_cases =
    -- Three files that are read: the place of the first slot.
    (ask.reading small, says (0 ∷ 17 ∷ []))
    ∷ (ask.reading patterned, says (0 ∷ 33 ∷ []))
    ∷ (ask.reading coprime, says (0 ∷ 19 ∷ []))
    -- 1: inside a number of two bytes and of three; the form comes first, so that a first byte alone is no fault of form.
    ∷ (ask.reading (from small 3 (0x80 ∷ [])), says (1 ∷ 4 ∷ []))
    ∷ (ask.reading (from small 3 (0x80 ∷ 0x80 ∷ [])), says (1 ∷ 5 ∷ []))
    -- 2: a second byte of 0, a third byte of 0, a third byte with the top bit; in the edition too, and before any limit is tested.
    ∷ (ask.reading (from small 3 (0x82 ∷ 0x00 ∷ [])), says (2 ∷ 3 ∷ []))
    ∷ (ask.reading (from small 3 (0x82 ∷ 0x80 ∷ 0x00 ∷ [])), says (2 ∷ 3 ∷ []))
    ∷ (ask.reading (from small 3 (0xFF ∷ 0xFF ∷ 0xFF ∷ [])), says (2 ∷ 3 ∷ []))
    ∷ (ask.reading (from small 0 (0x81 ∷ 0x00 ∷ [])), says (2 ∷ 0 ∷ []))
    ∷ (ask.reading (from small 16 (0x80 ∷ 0x00 ∷ [])), says (2 ∷ 16 ∷ []))
    -- 3: editions 0, 3 and 128; 2 is known.
    ∷ (ask.reading (set small 0 0), says (3 ∷ 0 ∷ []))
    ∷ (ask.reading (set small 0 3), says (3 ∷ 0 ∷ []))
    ∷ (ask.reading (from small 0 (0x80 ∷ 0x01 ∷ [])), says (3 ∷ 0 ∷ []))
    ∷ (ask.reading (set small 0 2), says (0 ∷ 17 ∷ []))
    -- 4: no task, 65 tasks; 64 are read on.
    ∷ (ask.reading (set small 1 0), says (4 ∷ 1 ∷ []))
    ∷ (ask.reading (set small 1 65), says (4 ∷ 1 ∷ []))
    ∷ (ask.reading (from small 1 (64 ∷ [])), says (1 ∷ 2 ∷ []))
    -- m of 0 and of 9; 8 is read on.
    ∷ (ask.reading (set small 2 0), says (4 ∷ 2 ∷ []))
    ∷ (ask.reading (set small 2 9), says (4 ∷ 2 ∷ []))
    ∷ (ask.reading (from small 2 (8 ∷ [])), says (1 ∷ 3 ∷ []))
    -- T of 0 and of 6,001; 6,000 is read on.
    ∷ (ask.reading (set small 3 0), says (4 ∷ 3 ∷ []))
    ∷ (ask.reading (from small 3 (0xF1 ∷ 0x2E ∷ [])), says (4 ∷ 3 ∷ []))
    ∷ (ask.reading (from small 3 (0xF0 ∷ 0x2E ∷ [])), says (1 ∷ 5 ∷ []))
    -- C of 0 and above T; C = T is read on.
    ∷ (ask.reading (set small 8 0), says (4 ∷ 8 ∷ []))
    ∷ (ask.reading (set small 8 5), says (4 ∷ 8 ∷ []))
    ∷ (ask.reading (from small 8 (4 ∷ [])), says (1 ∷ 9 ∷ []))
    -- O = T; one less is read on.
    ∷ (ask.reading (set small 9 4), says (4 ∷ 9 ∷ []))
    ∷ (ask.reading (from small 9 (3 ∷ [])), says (1 ∷ 10 ∷ []))
    -- D below C and above T; D = C and D = T are read on.
    ∷ (ask.reading (from small 8 (3 ∷ 0 ∷ 2 ∷ [])), says (4 ∷ 10 ∷ []))
    ∷ (ask.reading (set small 10 5), says (4 ∷ 10 ∷ []))
    ∷ (ask.reading (from small 8 (3 ∷ 0 ∷ 3 ∷ [])), says (1 ∷ 11 ∷ []))
    ∷ (ask.reading (from small 10 (4 ∷ [])), says (1 ∷ 11 ∷ []))
    -- 65 patterns; 64 are read on.
    ∷ (ask.reading (set small 11 65), says (4 ∷ 11 ∷ []))
    ∷ (ask.reading (from small 11 (64 ∷ [])), says (1 ∷ 12 ∷ []))
    -- 1,025 pairs in one pattern, and 1,023 after 2 of the pattern before; 1,024 in all are read on.
    ∷ (ask.reading (from coprime 14 (0x81 ∷ 0x08 ∷ [])), says (4 ∷ 14 ∷ []))
    ∷ (ask.reading (from coprime 14 (0x80 ∷ 0x08 ∷ [])), says (1 ∷ 16 ∷ []))
    ∷ (ask.reading (from patterned 25 (0xFF ∷ 0x07 ∷ [])), says (4 ∷ 25 ∷ []))
    ∷ (ask.reading (from patterned 25 (0xFE ∷ 0x07 ∷ [])), says (1 ∷ 27 ∷ []))
    -- 5: periods 17 and 353 have H = 6,001, also before a pattern count of 65; periods 48 and 125 have 6,000, and are read on.
    ∷ (ask.reading (from small 3 (17 ∷ 1 ∷ 0 ∷ 17 ∷ 0xE1 ∷ 0x02 ∷ 1 ∷ 0 ∷ 1 ∷ [])), says (5 ∷ 12 ∷ []))
    ∷ (ask.reading (from small 3 (17 ∷ 1 ∷ 0 ∷ 17 ∷ 0xE1 ∷ 0x02 ∷ 1 ∷ 0 ∷ 1 ∷ 65 ∷ [])), says (5 ∷ 12 ∷ []))
    ∷ (ask.reading (from small 3 (48 ∷ 1 ∷ 0 ∷ 48 ∷ 125 ∷ 1 ∷ 0 ∷ 125 ∷ [])), says (1 ∷ 11 ∷ []))
    -- Periods 1 and 2,048 have 2,049 jobs; periods 1 and 2,047 have 2,048, and are read on.
    ∷ (ask.reading (from small 3 (1 ∷ 1 ∷ 0 ∷ 1 ∷ 0x80 ∷ 0x10 ∷ 1 ∷ 0 ∷ 1 ∷ [])), says (5 ∷ 12 ∷ []))
    ∷ (ask.reading (from small 3 (1 ∷ 1 ∷ 0 ∷ 1 ∷ 0xFF ∷ 0x0F ∷ 1 ∷ 0 ∷ 1 ∷ [])), says (1 ∷ 12 ∷ []))
    -- 6: a from-task and a to-task that are none, and a task that is both.
    ∷ (ask.reading (set small 12 2), says (6 ∷ 12 ∷ []))
    ∷ (ask.reading (set small 13 2), says (6 ∷ 13 ∷ []))
    ∷ (ask.reading (set small 13 0), says (6 ∷ 13 ∷ []))
    -- Patterns that fall at the from-task; that fall at the to-task, or stay, where the from-tasks are equal.
    ∷ (ask.reading (set (set (set patterned 23 1) 26 0) 28 0), says (6 ∷ 28 ∷ []))
    ∷ (ask.reading (set (set patterned 28 0) 29 1), says (6 ∷ 29 ∷ []))
    ∷ (ask.reading (set patterned 28 0), says (6 ∷ 29 ∷ []))
    -- A falling from-task that is the to-task too lies at the from-task.
    ∷ (ask.reading (set (set (set (set patterned 23 1) 26 0) 28 0) 29 0), says (6 ∷ 28 ∷ []))
    -- A pair count of 0.
    ∷ (ask.reading (set small 14 0), says (6 ∷ 14 ∷ []))
    -- Pair numbers at their limits: with periods 2 and 3 a is below 3 and b below 2.
    ∷ (ask.reading (set coprime 17 3), says (6 ∷ 17 ∷ []))
    ∷ (ask.reading (set coprime 16 2), says (6 ∷ 16 ∷ []))
    ∷ (ask.reading (set (set coprime 17 2) 18 1), says (0 ∷ 19 ∷ []))
    -- In edition 2 a is below 3 as before, and b below 4; (0, 1) and (0, 3) are two pairs, in this order.
    ∷ (ask.reading (set (set coprime 0 2) 17 3), says (6 ∷ 17 ∷ []))
    ∷ (ask.reading (set (set coprime 0 2) 16 4), says (6 ∷ 16 ∷ []))
    ∷ (ask.reading (set (set coprime 0 2) 16 3), says (0 ∷ 19 ∷ []))
    ∷ (ask.reading (set (set (set (set coprime 0 2) 16 1) 17 0) 18 3), says (0 ∷ 19 ∷ []))
    ∷ (ask.reading (set (set (set (set coprime 0 2) 16 3) 17 0) 18 1), says (6 ∷ 18 ∷ []))
    -- Pairs that fall at a; that fall at b, or stay, where the first numbers are equal; (0, 0) and (0, 1) rise.
    ∷ (ask.reading (set (set coprime 15 1) 17 0), says (6 ∷ 17 ∷ []))
    ∷ (ask.reading (set coprime 17 0), says (6 ∷ 18 ∷ []))
    ∷ (ask.reading (set (set coprime 17 0) 18 1), says (6 ∷ 18 ∷ []))
    ∷ (ask.reading (set (set (set coprime 16 0) 17 0) 18 1), says (0 ∷ 19 ∷ []))
    -- 9: 32 patterns that make 128 links each, and before them one that makes one; without it there are 4,096, and the slots are missed.
    ∷ (ask.reading (eight ++ (33 ∷ one_pair (among_seven 0 32) 0 1)), says (9 ∷ 202 ∷ []))
    ∷ (ask.reading (eight ++ (32 ∷ among_seven 0 32)), says (1 ∷ 197 ∷ []))
    -- 7: a slot above the task count, the first or the last, before bytes that are missing or left over; 80 is one byte.
    ∷ (ask.reading (set small 17 3), says (7 ∷ 17 ∷ []))
    ∷ (ask.reading (set small 20 3 ++ (0 ∷ [])), says (7 ∷ 20 ∷ []))
    ∷ (ask.reading (from small 17 (3 ∷ [])), says (7 ∷ 17 ∷ []))
    ∷ (ask.reading (set small 18 0x80), says (7 ∷ 18 ∷ []))
    -- 8
    ∷ (ask.reading (small ++ (0 ∷ 0 ∷ [])), says (8 ∷ 21 ∷ []))
    -- Eight processors have eight slots in a tick.
    ∷ (ask.reading (1 ∷ 1 ∷ 8 ∷ 1 ∷ 1 ∷ 0 ∷ 1 ∷ 0 ∷ replicate 8 0), says (0 ∷ 8 ∷ []))
    ∷ (ask.reading (1 ∷ 1 ∷ 8 ∷ 1 ∷ 1 ∷ 0 ∷ 1 ∷ 0 ∷ replicate 7 0), says (1 ∷ 15 ∷ []))
    -- 64 tasks: slot 64 is task 63, slot 65 is none.
    ∷ (ask.reading (1 ∷ 64 ∷ 1 ∷ (task_numbers (replicate 64 (1, 1, 0, 1)) ++ (0 ∷ 64 ∷ []))), says (0 ∷ 260 ∷ []))
    ∷ (ask.reading (1 ∷ 64 ∷ 1 ∷ (task_numbers (replicate 64 (1, 1, 0, 1)) ++ (0 ∷ 65 ∷ []))), says (7 ∷ 260 ∷ []))
    -- H = 6,000 asks for 6,000 slots.
    ∷ (ask.reading (1 ∷ 1 ∷ 1 ∷ 0xF0 ∷ 0x2E ∷ 1 ∷ 0 ∷ 1 ∷ 0 ∷ 1 ∷ []), says (1 ∷ 10 ∷ []))
    -- 1: the first file cut at each of its places, before a number or a slot.
    ∷ table (λ n. (ask.reading (take n small), says (1 ∷ n ∷ []))) 21

-- ==== The reader's definition answers each of them so.
pub reader_cases_lem : Answered reader_cases
unfolding reader_cases small patterned coprime from from_seven to_seven one_pair eight among_seven reply task_numbers least all total table lcm lcm_of holds
    rises cycle jobs_of jobs_before jobs cycle_fits edition_of spans_of links_in number_at held got_at and_then times_from task_from on_task tasks_from two_at
    on_two pairs_from count_from heading_at on_heading on_pairs pattern_from on_pattern patterns_from opening_of middle_from on_opening on_tasks on_middle
    on_patterns head_from high slots_from on_slots on_head read_of
reader_cases_lem = refl
