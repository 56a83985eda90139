-- The second table, sets: rule 10 with every reason for it, adjusted times, and what the screen finds.
use Rattle.std.specs.Prelude.{refl, List, [], ◌∷◌, ◌++◌, ℕ, ◌+◌, ◌/◌, ◌%◌, ltb, ℤ, pos, set, take, replicate}
use Rattle.std.proofs.Math.IntN.{sub_ℕ}
use Rattle.vocabulary.specs.Test.{pick}
use Rattle.vocabulary.specs.Least.{least, all}
use Rattle.vocabulary.specs.First.{first_of}
use Rattle.vocabulary.specs.Total.{total}
use Rattle.vocabulary.specs.Table.{table, join, gather}
use Rattle.vocabulary.specs.Multiple.{lcm, lcm_of}
use Rattle.graph.specs.Graph.{reach, loops}
use Rattle.graph.specs.Longest as longest
use Rattle.graph.specs.Soonest as soonest
use Rattle.kinds.specs.Limits.{holds, rises}
use Rattle.kinds.specs.Editions.{edition_of}
use Rattle.kinds.specs.Tasks.{Set, pairs_in}
use Rattle.kinds.specs.Cycle.{cycle, jobs_of, jobs_before, jobs, cycle_fits}
use Rattle.kinds.specs.Jobs.{release, due, number_of_job, task_of_job, job_of_job}
use Rattle.kinds.specs.Links.{common, link_from, link_to, repeats, links_of, links, inner, spans_of, links_in}
use Rattle.kinds.specs.Sound.{attributes_fit, task_fits, pair_key, pair_fits, pattern_key, heading_fits, pattern_fits, opening_fits, sound}
use Rattle.numbers.specs.Numbers.{number_at, held, got_at, and_then}
use Rattle.heads.specs.Tables.{times_from, task_from, on_task, tasks_from, two_at, on_two, pairs_from, count_from, heading_at, on_heading, on_pairs}
use Rattle.heads.specs.Tables.{pattern_from, on_pattern, patterns_from}
use Rattle.heads.specs.Heads.{opening_of, middle_from, on_opening, on_tasks, on_middle, on_patterns, head_from}
use Rattle.reader.specs.Files.{take_head, taken_of}
use Rattle.judge.specs.Judgement.{rules, verdict_of}
use Rattle.network.specs.Network.{pair_links, pattern_links, cycle_links, link_starts, link_ends, network}
use Rattle.network.specs.Times.{own_release, own_due, own_running, release_by, adjusted_deadline}
use Rattle.network.specs.Causes.{on_cycle, load, room, tight_by}
use Rattle.screen.specs.Findings.{screen_rules, finding_by, adjust_rules, adjusted_of, releases_left, deadlines_left}
use Rattle.screen.specs.Heads.{screened_of, adjusted_head, releases_kept, deadlines_kept}
use Rattle.cases.specs.Samples.{small, small_head, from_seven, to_seven}
use Rattle.cases.specs.Questions.{Row, Answered, TaskRow, is, says, adjusts, reply, task_numbers, raw_headings, raw_pairs, lent_set}
use Rattle.cases.specs.Questions as ask

-- ---- sets of one kind
-- an edition and m, with two tasks and one pair
opened : ℕ → ℕ → Set
opened e m = lent_set e m ((2, 1, 0, 2) ∷ (4, 1, 0, 3) ∷ []) ((0, 1, 1) ∷ []) ((0, 0) ∷ [])

-- tasks alone, on m processors
tasks_on : ℕ → List TaskRow → Set
tasks_on m ts = lent_set 1 m ts [] []

-- one task on one processor
one_task : ℕ → ℕ → ℕ → ℕ → Set
one_task t c o d = tasks_on 1 ((t, c, o, d) ∷ [])

-- patterns of three tasks, with one pair each
patterned : List (ℕ × ℕ × ℕ) → Set
patterned hs = lent_set 1 1 ((2, 1, 0, 2) ∷ (4, 1, 0, 4) ∷ (4, 1, 0, 4) ∷ []) hs ((0, 0) ∷ (0, 0) ∷ (0, 0) ∷ [])

-- two pairs of a pattern, with periods 2 and 3, in an edition
paired_in : ℕ → ℕ → ℕ → ℕ → ℕ → Set
paired_in e a b c d = lent_set e 1 ((2, 1, 0, 2) ∷ (3, 1, 0, 3) ∷ []) ((0, 1, 2) ∷ []) ((a, b) ∷ (c, d) ∷ [])

paired : ℕ → ℕ → ℕ → ℕ → Set
paired = paired_in 1

-- task 0 with period 128 and seven tasks with period 1; the patterns before n patterns among the seven, each with the pair (0, b)
seven_in : ℕ → ℕ → List (ℕ × ℕ × ℕ) → ℕ → Set
seven_in e b hs n =
    lent_set e 1 ((128, 1, 0, 1) ∷ replicate 7 (1, 1, 0, 1)) (hs ++ table (λ k. (from_seven k, to_seven k, 1)) n) (replicate 33 (0, b))

seven : List (ℕ × ℕ × ℕ) → ℕ → Set
seven = seven_in 1 0

-- 65 or fewer patterns among nine tasks with period 1
many_patterns : ℕ → Set
many_patterns n =
    lent_set 1 1 (replicate 9 (1, 1, 0, 1)) (table (λ k. (k / 8, pick (ltb (k % 8) (k / 8)) (k % 8) (k % 8 + 1), 1)) n) (replicate 65 (0, 0))

-- patterns with the pairs (0, 0), (1, 0) and so on: n for the first of two, and as many as there may be for the last
many_pairs : List (ℕ × ℕ × ℕ) → ℕ → Set
many_pairs hs n =
    lent_set 1 1 ((1, 1, 0, 1) ∷ (1025, 1, 0, 1) ∷ (1025, 1, 0, 1) ∷ []) hs (table (λ k. (k, 0)) n ++ table (λ k. (k, 0)) 1025)

-- a chain from task 0 to task 1 to task 2: with deadline d of the last
chain : ℕ → Set
chain d = lent_set 1 1 ((12, 2, 3, 9) ∷ (12, 3, 0, 10) ∷ (12, 4, 2, d) ∷ []) ((0, 1, 1) ∷ (1, 2, 1) ∷ []) ((0, 0) ∷ (0, 0) ∷ [])

-- three jobs in a line, each of which needs its whole window
in_line : Set
in_line = lent_set 1 3 (replicate 3 (2, 2, 0, 2)) ((0, 1, 1) ∷ (1, 2, 1) ∷ []) ((0, 0) ∷ (0, 0) ∷ [])

-- periods 2 and 4, linked both ways by one pair each
both_ways_in : ℕ → ℕ → ℕ → ℕ → Set
both_ways_in e c a b = lent_set e 1 ((2, c, 0, 2) ∷ (4, 1, 0, 4) ∷ []) ((0, 1, 1) ∷ (1, 0, 1) ∷ []) ((a, 0) ∷ (0, b) ∷ [])

both_ways : ℕ → ℕ → ℕ → Set
both_ways = both_ways_in 1

-- periods 2, 4 and more, on two processors: a job of task 1, released late and with running time c, before the first job of task 0 in its next round
into_next : ℕ → List TaskRow → Set
into_next c more = lent_set 2 2 ((2, 1, 0, 2) ∷ (4, c, 3, 4) ∷ more) ((1, 0, 1) ∷ []) ((0, 2) ∷ [])

-- three tasks with period 4 and patterns with the pair (0, 0)
three_linked : List (ℕ × ℕ × ℕ) → Set
three_linked hs = lent_set 1 1 ((4, 1, 0, 4) ∷ (4, 1, 0, 4) ∷ (4, 1, 0, 4) ∷ []) hs ((0, 0) ∷ (0, 0) ∷ (0, 0) ∷ [])

-- periods 2, 4 and 8: every second job of task 0 before a job of task 1
repeated : Set
repeated = lent_set 1 1 ((2, 1, 0, 2) ∷ (4, 1, 0, 4) ∷ (8, 1, 0, 8) ∷ []) ((0, 1, 1) ∷ []) ((1, 0) ∷ [])

-- the other way: a job of task 1, released late, before every second job of task 0
repeated_back : Set
repeated_back = lent_set 1 1 ((2, 1, 0, 2) ∷ (4, 1, 3, 4) ∷ (8, 1, 0, 8) ∷ []) ((1, 0, 1) ∷ []) ((0, 1) ∷ [])

-- periods 2, 3 and 6 with running times 1, 1 and c
full_load : ℕ → Set
full_load c = tasks_on 1 ((2, 1, 0, 2) ∷ (3, 1, 0, 3) ∷ (6, c, 0, 6) ∷ [])

-- numbers that a buffer holds
pos_all : List ℕ → List ℤ
pos_all [] = []
pos_all (x ∷ xs) = pos x ∷ pos_all xs

-- n places that hold −7
blank : ℕ → List ℤ
blank n = replicate n (sub_ℕ 0 7)

-- a pair that leads into the next round, and back over longer periods: its first link lies on a cycle, its last leaves the block
long_way_back : Set
long_way_back =
    lent_set 2 1 ((4, 1, 0, 4) ∷ (4, 1, 0, 4) ∷ (8, 1, 0, 8) ∷ []) ((0, 1, 1) ∷ (1, 2, 1) ∷ (2, 0, 1) ∷ []) ((0, 1) ∷ (1, 0) ∷ (0, 0) ∷ [])

-- ---- the table
pub set_cases : List Row
set_cases =
    -- 10: editions 0 and 3; 1 and 2 are known.
    (ask.screening (opened 1 1), says (0 ∷ []))
    ∷ (ask.screening (opened 0 1), says (10 ∷ []))
    ∷ (ask.screening (opened 3 1), says (10 ∷ []))
    ∷ (ask.screening (opened 2 1), says (0 ∷ []))
    -- m of 0 and of 9; 8 is no fault.
    ∷ (ask.screening (opened 1 0), says (10 ∷ []))
    ∷ (ask.screening (opened 1 9), says (10 ∷ []))
    ∷ (ask.screening (opened 1 8), says (0 ∷ []))
    -- No task, 65 tasks; 64 tasks on eight processors fill every tick.
    ∷ (ask.screening (tasks_on 1 []), says (10 ∷ []))
    ∷ (ask.screening (tasks_on 8 (replicate 65 (9, 1, 0, 9))), says (10 ∷ []))
    ∷ (ask.screening (tasks_on 8 (replicate 64 (8, 1, 0, 8))), says (0 ∷ []))
    -- T of 0 and of 6,001; 6,000 is no fault.
    ∷ (ask.screening (one_task 0 1 0 1), says (10 ∷ []))
    ∷ (ask.screening (one_task 6001 1 0 1), says (10 ∷ []))
    ∷ (ask.screening (one_task 6000 6000 0 6000), says (0 ∷ []))
    -- C of 0 and above T.
    ∷ (ask.screening (one_task 4 0 0 4), says (10 ∷ []))
    ∷ (ask.screening (one_task 4 5 0 5), says (10 ∷ []))
    -- O = T.
    ∷ (ask.screening (one_task 4 1 4 4), says (10 ∷ []))
    -- D below C and above T; C = D = T with O = T − 1, and D = C, are no faults.
    ∷ (ask.screening (one_task 4 3 0 2), says (10 ∷ []))
    ∷ (ask.screening (one_task 4 1 0 5), says (10 ∷ []))
    ∷ (ask.screening (one_task 4 4 3 4), says (0 ∷ []))
    ∷ (ask.screening (one_task 4 2 0 2), says (0 ∷ []))
    -- H of 6,001; H of 6,000 is no fault, and the judge misses the slots.
    ∷ (ask.screening (tasks_on 1 ((17, 1, 0, 1) ∷ (353, 1, 0, 1) ∷ [])), says (10 ∷ []))
    ∷ (ask.judging (tasks_on 1 ((48, 1, 0, 1) ∷ (125, 1, 0, 1) ∷ [])) [], says (11 ∷ []))
    -- 2,049 jobs; 2,048 are no fault.
    ∷ (ask.screening (tasks_on 2 ((1, 1, 0, 1) ∷ (2048, 1, 0, 1) ∷ [])), says (10 ∷ []))
    ∷ (ask.judging (tasks_on 2 ((1, 1, 0, 1) ∷ (2047, 1, 0, 1) ∷ [])) [], says (11 ∷ []))
    -- 65 patterns; 64 are no fault.
    ∷ (ask.judging (many_patterns 65) [], says (10 ∷ []))
    ∷ (ask.judging (many_patterns 64) [], says (11 ∷ []))
    -- A from-task and a to-task that are none, and a task that is both.
    ∷ (ask.screening (patterned ((3, 1, 1) ∷ [])), says (10 ∷ []))
    ∷ (ask.screening (patterned ((0, 3, 1) ∷ [])), says (10 ∷ []))
    ∷ (ask.screening (patterned ((1, 1, 1) ∷ [])), says (10 ∷ []))
    -- Patterns that fall at the from-task; that fall at the to-task, or stay. In order they are no fault.
    ∷ (ask.judging (patterned ((1, 2, 1) ∷ (0, 2, 1) ∷ [])) [], says (10 ∷ []))
    ∷ (ask.judging (patterned ((0, 2, 1) ∷ (0, 1, 1) ∷ [])) [], says (10 ∷ []))
    ∷ (ask.judging (patterned ((0, 2, 1) ∷ (0, 2, 1) ∷ [])) [], says (10 ∷ []))
    ∷ (ask.judging (patterned ((0, 2, 1) ∷ (1, 0, 1) ∷ (1, 2, 1) ∷ [])) [], says (11 ∷ []))
    -- A pair count of 0.
    ∷ (ask.screening (patterned ((0, 1, 0) ∷ [])), says (10 ∷ []))
    -- Pair numbers at their limits: with periods 2 and 3 a is below 3 and b below 2.
    ∷ (ask.judging (paired 0 0 3 0) [], says (10 ∷ []))
    ∷ (ask.judging (paired 0 0 0 2) [], says (10 ∷ []))
    ∷ (ask.judging (paired 0 0 2 1) [], says (11 ∷ []))
    -- In edition 2 a is below 3 as before, and b below 4; (0, 1) and (0, 3) are two pairs, in this order.
    ∷ (ask.judging (paired_in 2 0 0 3 0) [], says (10 ∷ []))
    ∷ (ask.judging (paired_in 2 0 0 0 4) [], says (10 ∷ []))
    ∷ (ask.judging (paired_in 2 0 0 0 3) [], says (11 ∷ []))
    ∷ (ask.judging (paired_in 2 0 1 0 3) [], says (11 ∷ []))
    ∷ (ask.judging (paired_in 2 0 3 0 1) [], says (10 ∷ []))
    -- Pairs that fall at a; that fall at b, or stay; (0, 0) and (0, 1), and (0, 1) and (1, 0), are no fault.
    ∷ (ask.judging (paired 1 0 0 1) [], says (10 ∷ []))
    ∷ (ask.judging (paired 0 1 0 0) [], says (10 ∷ []))
    ∷ (ask.judging (paired 0 1 0 1) [], says (10 ∷ []))
    ∷ (ask.judging (paired 0 0 0 1) [], says (11 ∷ []))
    ∷ (ask.judging (paired 0 1 1 0) [], says (11 ∷ []))
    -- 1,025 pairs, in one pattern, and in two.
    ∷ (ask.judging (many_pairs ((0, 1, 1025) ∷ []) 0) [], says (10 ∷ []))
    ∷ (ask.judging (many_pairs ((0, 1, 2) ∷ (0, 2, 1023) ∷ []) 2) [], says (10 ∷ []))
    -- 4,097 links; 4,096 are no fault.
    ∷ (ask.linking (seven ((0, 1, 1) ∷ []) 32), is 4097)
    ∷ (ask.judging (seven ((0, 1, 1) ∷ []) 32) [], says (10 ∷ []))
    ∷ (ask.linking (seven [] 32), is 4096)
    ∷ (ask.judging (seven [] 32) [], says (11 ∷ []))
    -- Links into the next block are counted with the others.
    ∷ (ask.linking (seven_in 2 1 ((0, 1, 1) ∷ []) 32), is 4097)
    ∷ (ask.judging (seven_in 2 1 ((0, 1, 1) ∷ []) 32) [], says (10 ∷ []))
    ∷ (ask.linking (seven_in 2 1 [] 32), is 4096)
    ∷ (ask.judging (seven_in 2 1 [] 32) [], says (11 ∷ []))
    ∷ (ask.judging (seven_in 1 1 [] 32) [], says (10 ∷ []))
    -- For C: a head that is whole, one with a byte left over, one cut short, and one that the reader refuses by 4.
    ∷ (ask.screening_head small_head, says (0 ∷ []))
    ∷ (ask.screening_head (small_head ++ (0 ∷ [])), says (10 ∷ []))
    ∷ (ask.screening_head (take 16 small_head), says (10 ∷ []))
    ∷ (ask.screening_head (set small_head 2 9), says (10 ∷ []))
    -- Adjusted times of a chain of three jobs: at each link a release leaves room for the predecessor's running time, a deadline for the successor's.
    ∷ (ask.adjusting (chain 10) (blank 3) (blank 3), adjusts (0 ∷ []) (pos_all (3 ∷ 5 ∷ 8 ∷ [])) (pos_all (5 ∷ 8 ∷ 12 ∷ [])))
    -- The set of marked case J.
    ∷ (ask.adjusting in_line (blank 3) (blank 3), adjusts (0 ∷ []) (pos_all (0 ∷ 2 ∷ 4 ∷ [])) (sub_ℕ 0 2 ∷ pos_all (0 ∷ 2 ∷ [])))
    -- A pair that links jobs twice in a cycle, from the shorter period to the longer and back.
    ∷ (
      ask.adjusting repeated (blank 7) (blank 7),
      adjusts (0 ∷ []) (pos_all (0 ∷ 2 ∷ 4 ∷ 6 ∷ 3 ∷ 7 ∷ 0 ∷ [])) (pos_all (2 ∷ 3 ∷ 6 ∷ 7 ∷ 4 ∷ 8 ∷ 8 ∷ [])),
    )
    ∷ (
      ask.adjusting repeated_back (blank 7) (blank 7),
      adjusts (0 ∷ []) (pos_all (0 ∷ 4 ∷ 4 ∷ 8 ∷ 3 ∷ 7 ∷ 0 ∷ [])) (pos_all (2 ∷ 4 ∷ 6 ∷ 8 ∷ 3 ∷ 7 ∷ 8 ∷ [])),
    )
    -- Of a pair that leads into the next round the first link lies in the cycle and counts, and the last leaves it and does not; alone it is the last.
    ∷ (
      ask.adjusting (into_next 1 ((8, 1, 0, 8) ∷ [])) (blank 7) (blank 7),
      adjusts (0 ∷ []) (pos_all (0 ∷ 2 ∷ 4 ∷ 6 ∷ 3 ∷ 7 ∷ 0 ∷ [])) (pos_all (2 ∷ 4 ∷ 6 ∷ 8 ∷ 5 ∷ 11 ∷ 8 ∷ [])),
    )
    ∷ (ask.adjusting (into_next 1 []) (blank 3) (blank 3), adjusts (0 ∷ []) (pos_all (0 ∷ 2 ∷ 3 ∷ [])) (pos_all (2 ∷ 4 ∷ 7 ∷ [])))
    -- 11: a buffer for releases and a buffer for deadlines of another length; neither is written.
    ∷ (ask.adjusting (chain 10) (blank 2) (blank 3), adjusts (11 ∷ []) (blank 2) (blank 3))
    ∷ (ask.adjusting (chain 10) (blank 3) (blank 4), adjusts (11 ∷ []) (blank 3) (blank 4))
    -- 13, after 10 and 11.
    ∷ (ask.adjusting (both_ways 1 1 1) (blank 3) (blank 3), adjusts (13 ∷ 0 ∷ 1 ∷ []) (blank 3) (blank 3))
    ∷ (ask.adjusting (both_ways 1 1 1) (blank 3) [], adjusts (11 ∷ []) (blank 3) [])
    ∷ (ask.adjusting (both_ways 0 1 1) [] (blank 3), adjusts (10 ∷ []) [] (blank 3))
    -- For C the same, and 10 where a byte is left over.
    ∷ (ask.adjusting_head small_head (blank 3) (blank 3), adjusts (0 ∷ []) (pos_all (0 ∷ 2 ∷ 1 ∷ [])) (pos_all (2 ∷ 4 ∷ 3 ∷ [])))
    ∷ (ask.adjusting_head small_head (blank 4) (blank 3), adjusts (11 ∷ []) (blank 4) (blank 3))
    ∷ (ask.adjusting_head (small_head ++ (0 ∷ [])) (blank 3) (blank 3), adjusts (10 ∷ []) (blank 3) (blank 3))
    -- 13: job 1 of task 0 lies on a cycle with job 0 of task 1; with job 0 before it and job 1 after it there is none.
    ∷ (ask.screening (both_ways 1 1 1), says (13 ∷ 0 ∷ 1 ∷ []))
    ∷ (ask.screening (both_ways 1 0 1), says (0 ∷ []))
    -- In edition 2 the same is a cycle; where one of the two leads into the next round, there is none.
    ∷ (ask.screening (both_ways_in 2 1 1 1), says (13 ∷ 0 ∷ 1 ∷ []))
    ∷ (ask.screening (both_ways_in 2 1 1 3), says (0 ∷ []))
    ∷ (ask.screening (both_ways_in 1 1 1 3), says (10 ∷ []))
    -- Such a pair can have a link on a cycle all the same.
    ∷ (ask.screening long_way_back, says (13 ∷ 0 ∷ 0 ∷ []))
    -- A cycle of three jobs; a job that only leads into a cycle, and one that only follows it, are not named.
    ∷ (ask.screening (three_linked ((0, 1, 1) ∷ (1, 2, 1) ∷ (2, 0, 1) ∷ [])), says (13 ∷ 0 ∷ 0 ∷ []))
    ∷ (ask.screening (three_linked ((0, 1, 1) ∷ (1, 2, 1) ∷ (2, 1, 1) ∷ [])), says (13 ∷ 1 ∷ 0 ∷ []))
    ∷ (ask.screening (three_linked ((1, 0, 1) ∷ (1, 2, 1) ∷ (2, 1, 1) ∷ [])), says (13 ∷ 1 ∷ 0 ∷ []))
    -- 13 comes before 14, and 14 before 15.
    ∷ (ask.screening (both_ways 2 1 1), says (13 ∷ 0 ∷ 1 ∷ []))
    ∷ (ask.screening (both_ways 2 0 1), says (14 ∷ 5 ∷ 4 ∷ []))
    -- 14: a full cycle is no fault, and a tick more is.
    ∷ (ask.screening (full_load 1), says (0 ∷ []))
    ∷ (ask.screening (full_load 2), says (14 ∷ 7 ∷ 6 ∷ []))
    -- Eight processors have room for eight full tasks, and not for nine.
    ∷ (ask.screening (tasks_on 8 (replicate 8 (4, 4, 0, 4))), says (0 ∷ []))
    ∷ (ask.screening (tasks_on 8 (replicate 9 (4, 4, 0, 4))), says (14 ∷ 36 ∷ 32 ∷ []))
    -- Task 63 asks for a tick too many.
    ∷ (ask.screening (tasks_on 8 (replicate 63 (8, 1, 0, 8) ++ ((8, 2, 0, 8) ∷ []))), says (14 ∷ 65 ∷ 64 ∷ []))
    -- H = 6,000.
    ∷ (ask.screening (tasks_on 1 ((48, 48, 0, 48) ∷ (125, 1, 0, 125) ∷ [])), says (14 ∷ 6048 ∷ 6000 ∷ []))
    -- 15: the chain's first job has just its two ticks; with the last deadline one lower it has one.
    ∷ (ask.screening (chain 10), says (0 ∷ []))
    ∷ (ask.screening (chain 9), says (15 ∷ 0 ∷ 0 ∷ []))
    -- A job that is not its task's first: held back by a late release, and called for by an early deadline.
    ∷ (ask.screening (lent_set 1 1 ((4, 2, 0, 3) ∷ (8, 1, 6, 2) ∷ []) ((1, 0, 1) ∷ []) ((0, 1) ∷ [])), says (15 ∷ 0 ∷ 1 ∷ []))
    ∷ (ask.screening (paired 0 1 1 0), says (15 ∷ 0 ∷ 1 ∷ []))
    -- A job whose successor leaves it too little room makes the successor late too, and the lower of the two is named.
    ∷ (ask.screening (lent_set 1 2 ((10, 3, 0, 6) ∷ (10, 4, 0, 5) ∷ []) ((1, 0, 1) ∷ []) ((0, 0) ∷ [])), says (15 ∷ 0 ∷ 0 ∷ []))
    -- Into the next round: within the cycle the first job has two ticks for its three, and so job 2 of task 0 is late; where the link leaves the cycle
    -- nothing is found.
    ∷ (ask.screening (into_next 3 ((8, 1, 0, 8) ∷ [])), says (15 ∷ 0 ∷ 2 ∷ []))
    ∷ (ask.screening (into_next 3 []), says (0 ∷ []))
    ∷ []

-- ==== The definitions answer each of them so.
pub set_cases_lem : Answered set_cases
unfolding set_cases opened tasks_on one_task patterned paired paired_in seven seven_in many_patterns many_pairs chain in_line both_ways both_ways_in into_next
    long_way_back three_linked repeated repeated_back full_load pos_all blank small small_head from_seven to_seven reply task_numbers raw_headings raw_pairs
    lent_set least all first_of total table join gather lcm lcm_of reach loops longest.most longest.entry longest.rounds soonest.fewest soonest.due
    soonest.soonest holds rises pairs_in cycle jobs_of jobs_before jobs cycle_fits release due number_of_job task_of_job job_of_job common link_from link_to
    repeats links_of links inner edition_of spans_of links_in attributes_fit task_fits pair_key pair_fits pattern_key heading_fits pattern_fits opening_fits
    sound number_at held got_at and_then times_from task_from on_task tasks_from two_at on_two pairs_from count_from heading_at on_heading on_pairs
    pattern_from on_pattern patterns_from opening_of middle_from on_opening on_tasks on_middle on_patterns head_from take_head taken_of rules verdict_of
    pair_links pattern_links cycle_links link_starts link_ends network own_release own_due own_running release_by adjusted_deadline on_cycle load room
    tight_by screen_rules finding_by adjust_rules adjusted_of releases_left deadlines_left screened_of adjusted_head releases_kept deadlines_kept
set_cases_lem = refl
