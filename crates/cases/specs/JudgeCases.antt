-- The second table, the judge: every verdict with its evidence, and the order of the rules.
use Rattle.std.specs.Prelude.{refl, List, [], ◌∷◌, ◌++◌, ℕ, suc, set, take, replicate}
use Rattle.vocabulary.specs.Least.{least, greatest, all}
use Rattle.vocabulary.specs.First.{first_of}
use Rattle.vocabulary.specs.Count.{count}
use Rattle.vocabulary.specs.Total.{total}
use Rattle.vocabulary.specs.Table.{table, gather}
use Rattle.vocabulary.specs.Multiple.{lcm, lcm_of}
use Rattle.kinds.specs.Limits.{holds, rises}
use Rattle.kinds.specs.Editions.{edition_of}
use Rattle.kinds.specs.Tasks.{Set, pairs_in}
use Rattle.kinds.specs.Cycle.{cycle, jobs_of, jobs_before, jobs, cycle_fits}
use Rattle.kinds.specs.Jobs.{release}
use Rattle.kinds.specs.Links.{common, link_from, link_to, repeats, links_of, links, spans_of, links_in}
use Rattle.kinds.specs.Sound.{attributes_fit, task_fits, pair_key, pair_fits, pattern_key, heading_fits, pattern_fits, opening_fits, sound}
use Rattle.kinds.specs.Plans.{slot, shows, shown, awake, runs, ticks, first_tick, last_tick}
use Rattle.numbers.specs.Numbers.{number_at, held, got_at, and_then}
use Rattle.heads.specs.Tables.{times_from, task_from, on_task, tasks_from, two_at, on_two, pairs_from, count_from, heading_at, on_heading, on_pairs}
use Rattle.heads.specs.Tables.{pattern_from, on_pattern, patterns_from}
use Rattle.heads.specs.Heads.{opening_of, middle_from, on_opening, on_tasks, on_middle, on_patterns, head_from}
use Rattle.reader.specs.Files.{take_head, taken_of}
use Rattle.slots.specs.High.{high}
use Rattle.judge.specs.Rules.{twin, mated, clashes, strays, strayed, miscounts, miscounted, against, bars, broken, breaks, broken_pair, broken_pattern}
use Rattle.judge.specs.Judgement.{high_at, twice_at, outside_at, wrong_at, broken_at, plan_rules, rules, verdict_of}
use Rattle.judge.specs.Heads.{judged_of}
use Rattle.cases.specs.Samples.{small, small_head, small_slots}
use Rattle.cases.specs.Questions.{Row, Answered, TaskRow, says, at, gets, reply, task_numbers, raw_headings, raw_pairs, lent_set}
use Rattle.cases.specs.Questions as ask

-- ---- sets
-- two tasks and one pair, as in the small file, with m processors
on_some : ℕ → Set
on_some m = lent_set 1 m ((2, 1, 0, 2) ∷ (4, 1, 0, 3) ∷ []) ((0, 1, 1) ∷ []) ((0, 0) ∷ [])

-- a full task for each of m processors
full : ℕ → Set
full m = lent_set 1 m (replicate m (1, 1, 0, 1)) [] []

-- a task that is released at tick o of two
late_by : ℕ → Set
late_by o = lent_set 1 2 ((2, 1, o, 2) ∷ []) [] []

-- a task whose window lies over the end of the cycle: ticks 3 and 4, of which the second has slot tick 0
over_end : ℕ → Set
over_end m = lent_set 1 m ((4, 1, 3, 2) ∷ []) [] []

-- the same, and it needs both
both_over_end : Set
both_over_end = lent_set 1 1 ((4, 2, 3, 2) ∷ []) [] []

-- a task of two jobs, from tick 5 on, and one that makes the cycle 12 ticks long
twice_late : Set
twice_late = lent_set 1 1 ((6, 2, 5, 6) ∷ (12, 1, 0, 12) ∷ []) [] []

-- 64 tasks on eight processors, and a plan for them: task 0 first and task 63 last
most : Set
most = lent_set 1 8 (replicate 64 (8, 1, 0, 8)) [] []

most_slots : List ℕ
most_slots = table suc 64

-- jobs 2k of task 0 before job k of task 1, and jobs 2k and 2k + 1 of task 0 before job k of task 2, twice in a cycle
linked : Set
linked =
    lent_set 1 2 ((2, 1, 0, 2) ∷ (4, 1, 0, 4) ∷ (4, 1, 0, 4) ∷ (8, 1, 0, 8) ∷ []) ((0, 1, 1) ∷ (0, 2, 2) ∷ [])
    ((0, 0) ∷ (0, 0) ∷ (1, 0) ∷ [])

-- tick by tick, two processors each
linked_slots : List ℕ
linked_slots = 1 ∷ 4 ∷ 2 ∷ 0 ∷ 1 ∷ 0 ∷ 3 ∷ 0 ∷ 1 ∷ 0 ∷ 2 ∷ 0 ∷ 1 ∷ 0 ∷ 3 ∷ 0 ∷ []

-- a job of two ticks before a job of one
two_then_one : Set
two_then_one = lent_set 1 1 ((4, 2, 0, 4) ∷ (4, 1, 0, 4) ∷ []) ((0, 1, 1) ∷ []) ((0, 0) ∷ [])

-- both ways, once into the next round
roundabout : ℕ → Set
roundabout e = lent_set e 1 ((4, 1, 0, 4) ∷ (4, 1, 0, 4) ∷ []) ((0, 1, 1) ∷ (1, 0, 1) ∷ []) ((0, 0) ∷ (0, 1) ∷ [])

-- a job that is released late before the other task's next, in a cycle of one round and, with one task more, of two
late_next : List TaskRow → Set
late_next more = lent_set 2 1 ((4, 1, 0, 4) ∷ (4, 1, 3, 4) ∷ more) ((1, 0, 1) ∷ []) ((0, 1) ∷ [])

-- ---- the table
pub judge_cases : List Row
judge_cases =
    -- A plan that is accepted, by value and for C.
    (ask.judging (on_some 1) small_slots, says (0 ∷ []))
    ∷ (ask.judging_head small_head small_slots, says (0 ∷ []))
    ∷ (ask.judging_head (set small_head 0 2) small_slots, says (0 ∷ []))
    -- 10 comes before 11: m of 9; a head with a byte left over, one cut short, and one that the reader refuses.
    ∷ (ask.judging (on_some 9) [], says (10 ∷ []))
    ∷ (ask.judging_head (small_head ++ (0 ∷ [])) [], says (10 ∷ []))
    ∷ (ask.judging_head (take 16 small_head) [], says (10 ∷ []))
    ∷ (ask.judging_head (set small_head 0 3) [], says (10 ∷ []))
    -- 11: a slot too few, a slot too many, and a plan for one processor where there are two; before 12.
    ∷ (ask.judging (on_some 1) (1 ∷ 2 ∷ 1 ∷ []), says (11 ∷ []))
    ∷ (ask.judging (on_some 1) (1 ∷ 2 ∷ 1 ∷ 0 ∷ 0 ∷ []), says (11 ∷ []))
    ∷ (ask.judging (on_some 2) small_slots, says (11 ∷ []))
    ∷ (ask.judging_head small_head (1 ∷ 2 ∷ 3 ∷ []), says (11 ∷ []))
    -- 12: the lowest place of a slot above the task count; before 20.
    ∷ (ask.judging (on_some 1) (1 ∷ 3 ∷ 1 ∷ 3 ∷ []), says (12 ∷ 1 ∷ []))
    ∷ (ask.judging_head small_head (1 ∷ 2 ∷ 1 ∷ 0x80 ∷ []), says (12 ∷ 3 ∷ []))
    ∷ (ask.judging (late_by 0) (1 ∷ 1 ∷ 0 ∷ 2 ∷ []), says (12 ∷ 3 ∷ []))
    -- 20: the lowest tick, then the lowest two processors, next to each other or not; idle processors are no fault; before 21 and 22.
    ∷ (ask.judging (late_by 0) (0 ∷ 0 ∷ 1 ∷ 1 ∷ []), says (20 ∷ 1 ∷ 0 ∷ 1 ∷ []))
    ∷ (ask.judging (full 4) (1 ∷ 2 ∷ 2 ∷ 1 ∷ []), says (20 ∷ 0 ∷ 0 ∷ 3 ∷ []))
    ∷ (ask.judging (full 8) (1 ∷ 2 ∷ 3 ∷ 4 ∷ 5 ∷ 6 ∷ 7 ∷ 7 ∷ []), says (20 ∷ 0 ∷ 6 ∷ 7 ∷ []))
    ∷ (ask.judging (over_end 2) (0 ∷ 0 ∷ 1 ∷ 1 ∷ 0 ∷ 0 ∷ 1 ∷ 0 ∷ []), says (20 ∷ 1 ∷ 0 ∷ 1 ∷ []))
    -- It is about slots: the task sleeps at tick 0.
    ∷ (ask.judging (late_by 1) (1 ∷ 1 ∷ 0 ∷ 0 ∷ []), says (20 ∷ 0 ∷ 0 ∷ 1 ∷ []))
    -- 21: the two slot ticks between the windows, the lowest first, and the processor; before 22. Both ticks of the window are accepted.
    ∷ (ask.judging (over_end 1) (0 ∷ 1 ∷ 0 ∷ 0 ∷ []), says (21 ∷ 1 ∷ 0 ∷ []))
    ∷ (ask.judging (over_end 1) (0 ∷ 0 ∷ 1 ∷ 1 ∷ []), says (21 ∷ 2 ∷ 0 ∷ []))
    ∷ (ask.judging (over_end 2) (0 ∷ 0 ∷ 0 ∷ 1 ∷ 1 ∷ 0 ∷ 0 ∷ 0 ∷ []), says (21 ∷ 1 ∷ 1 ∷ []))
    ∷ (ask.judging (over_end 1) (0 ∷ 0 ∷ 0 ∷ 1 ∷ []), says (0 ∷ []))
    ∷ (ask.judging (over_end 1) (1 ∷ 0 ∷ 0 ∷ 0 ∷ []), says (0 ∷ []))
    -- The job runs at true tick 4, where the slot tick is 0.
    ∷ (ask.running_at (over_end 1) (1 ∷ 0 ∷ 0 ∷ 0 ∷ []) 0 0, at (4 ∷ []))
    -- 22: no tick, which shows the release twice, and a tick too many; the lowest task, then the lowest job; before 23.
    ∷ (ask.judging (on_some 1) (0 ∷ 2 ∷ 1 ∷ 0 ∷ []), says (22 ∷ 0 ∷ 0 ∷ 0 ∷ 0 ∷ 0 ∷ []))
    ∷ (ask.judging (on_some 1) (1 ∷ 1 ∷ 2 ∷ 1 ∷ []), says (22 ∷ 0 ∷ 0 ∷ 2 ∷ 0 ∷ 1 ∷ []))
    ∷ (ask.judging (on_some 1) (1 ∷ 0 ∷ 0 ∷ 0 ∷ []), says (22 ∷ 0 ∷ 1 ∷ 0 ∷ 2 ∷ 2 ∷ []))
    ∷ (ask.judging (on_some 1) (1 ∷ 0 ∷ 1 ∷ 0 ∷ []), says (22 ∷ 1 ∷ 0 ∷ 0 ∷ 0 ∷ 0 ∷ []))
    ∷ (ask.judging (on_some 1) (2 ∷ 1 ∷ 0 ∷ 0 ∷ []), says (22 ∷ 0 ∷ 1 ∷ 0 ∷ 2 ∷ 2 ∷ []))
    -- First and last are in true time: the second of two ticks, and the only one, are at tick 4, where the slot tick is 0. With no tick the release is shown.
    ∷ (ask.judging (over_end 1) (1 ∷ 0 ∷ 0 ∷ 1 ∷ []), says (22 ∷ 0 ∷ 0 ∷ 2 ∷ 3 ∷ 4 ∷ []))
    ∷ (ask.judging both_over_end (1 ∷ 0 ∷ 0 ∷ 0 ∷ []), says (22 ∷ 0 ∷ 0 ∷ 1 ∷ 4 ∷ 4 ∷ []))
    ∷ (ask.judging both_over_end (0 ∷ 0 ∷ 0 ∷ 1 ∷ []), says (22 ∷ 0 ∷ 0 ∷ 1 ∷ 3 ∷ 3 ∷ []))
    ∷ (ask.judging (over_end 1) (0 ∷ 0 ∷ 0 ∷ 0 ∷ []), says (22 ∷ 0 ∷ 0 ∷ 0 ∷ 3 ∷ 3 ∷ []))
    -- The window of job 1 is the ticks 11 to 16 of a cycle of 12: slot tick 11 comes first, then 0 and 4. A release may lie near H.
    ∷ (ask.judging twice_late (1 ∷ 2 ∷ 0 ∷ 0 ∷ 1 ∷ 1 ∷ 1 ∷ 0 ∷ 0 ∷ 0 ∷ 0 ∷ 1 ∷ []), says (22 ∷ 0 ∷ 1 ∷ 3 ∷ 11 ∷ 16 ∷ []))
    ∷ (ask.judging twice_late (0 ∷ 2 ∷ 0 ∷ 0 ∷ 0 ∷ 1 ∷ 0 ∷ 0 ∷ 0 ∷ 0 ∷ 1 ∷ 0 ∷ []), says (22 ∷ 0 ∷ 1 ∷ 0 ∷ 11 ∷ 11 ∷ []))
    -- What a job gets, in the first cycle and later: whole cycles later the same.
    ∷ (ask.getting (over_end 1) (1 ∷ 0 ∷ 0 ∷ 1 ∷ []) 0 0, gets 2 3 4)
    ∷ (ask.getting (over_end 1) (1 ∷ 0 ∷ 0 ∷ 1 ∷ []) 0 1, gets 2 7 8)
    ∷ (ask.getting (over_end 1) (1 ∷ 0 ∷ 0 ∷ 0 ∷ []) 0 3, gets 1 16 16)
    ∷ (ask.getting (over_end 1) (0 ∷ 0 ∷ 0 ∷ 0 ∷ []) 0 3, gets 0 15 15)
    -- 23: a plan that keeps all links; then the second job in the same tick as the first, which is not later. Pattern, pair and k are the lowest.
    ∷ (ask.judging linked linked_slots, says (0 ∷ []))
    ∷ (ask.judging linked (set (set linked_slots 14 0) 13 3), says (23 ∷ 1 ∷ 1 ∷ 1 ∷ []))
    ∷ (ask.judging linked (set (set linked_slots 10 0) 9 2), says (23 ∷ 0 ∷ 0 ∷ 1 ∷ []))
    ∷ (ask.judging linked (set (set linked_slots 6 0) 3 3), says (23 ∷ 1 ∷ 1 ∷ 0 ∷ []))
    -- Every tick of the first job is earlier than the second's.
    ∷ (ask.judging two_then_one (1 ∷ 1 ∷ 2 ∷ 0 ∷ []), says (0 ∷ []))
    ∷ (ask.judging two_then_one (1 ∷ 2 ∷ 1 ∷ 0 ∷ []), says (23 ∷ 0 ∷ 0 ∷ 0 ∷ []))
    -- Two tasks linked both ways, once into the next round, can be accepted, in edition 2 alone; the link within the round is kept or broken as before.
    ∷ (ask.judging (roundabout 2) (1 ∷ 2 ∷ 0 ∷ 0 ∷ []), says (0 ∷ []))
    ∷ (ask.judging (roundabout 2) (2 ∷ 1 ∷ 0 ∷ 0 ∷ []), says (23 ∷ 0 ∷ 0 ∷ 0 ∷ []))
    ∷ (ask.judging (roundabout 1) (1 ∷ 2 ∷ 0 ∷ 0 ∷ []), says (10 ∷ []))
    -- The second job lies in the next block: task 0 runs at true tick 5, where the slot tick is 1, and then at 4, when the first job still has to run.
    ∷ (ask.getting (late_next []) (2 ∷ 1 ∷ 0 ∷ 0 ∷ []) 0 1, gets 1 5 5)
    ∷ (ask.judging (late_next []) (2 ∷ 1 ∷ 0 ∷ 0 ∷ []), says (0 ∷ []))
    ∷ (ask.judging (late_next []) (1 ∷ 2 ∷ 0 ∷ 0 ∷ []), says (23 ∷ 0 ∷ 0 ∷ 0 ∷ []))
    -- In a cycle of two rounds the last of the two links leaves it; k is below H/p.
    ∷ (ask.judging (late_next ((8, 1, 0, 8) ∷ [])) (1 ∷ 3 ∷ 0 ∷ 2 ∷ 1 ∷ 0 ∷ 0 ∷ 2 ∷ []), says (0 ∷ []))
    ∷ (ask.judging (late_next ((8, 1, 0, 8) ∷ [])) (1 ∷ 2 ∷ 0 ∷ 2 ∷ 1 ∷ 0 ∷ 0 ∷ 3 ∷ []), says (23 ∷ 0 ∷ 0 ∷ 1 ∷ []))
    ∷ (ask.judging (late_next ((8, 1, 0, 8) ∷ [])) (1 ∷ 3 ∷ 0 ∷ 0 ∷ 1 ∷ 2 ∷ 0 ∷ 2 ∷ []), says (23 ∷ 0 ∷ 0 ∷ 0 ∷ []))
    -- Eight processors in one tick; with one of them idle its task gets none.
    ∷ (ask.judging (full 8) (1 ∷ 2 ∷ 3 ∷ 4 ∷ 5 ∷ 6 ∷ 7 ∷ 8 ∷ []), says (0 ∷ []))
    ∷ (ask.judging (full 8) (1 ∷ 2 ∷ 3 ∷ 4 ∷ 5 ∷ 6 ∷ 7 ∷ 0 ∷ []), says (22 ∷ 7 ∷ 0 ∷ 0 ∷ 0 ∷ 0 ∷ []))
    -- 64 tasks on eight processors; with the last slot idle task 63 gets no tick, and slot 65 is none.
    ∷ (ask.judging most most_slots, says (0 ∷ []))
    ∷ (ask.judging most (set most_slots 63 0), says (22 ∷ 63 ∷ 0 ∷ 0 ∷ 0 ∷ 0 ∷ []))
    ∷ (ask.judging most (set most_slots 63 65), says (12 ∷ 63 ∷ []))
    ∷ []

-- ==== The judge's definition answers each of them so.
pub judge_cases_lem : Answered judge_cases
unfolding judge_cases on_some full late_by over_end both_over_end twice_late most most_slots linked linked_slots two_then_one roundabout late_next small
    small_head small_slots reply task_numbers raw_headings raw_pairs lent_set least greatest all first_of count total table gather lcm lcm_of holds rises
    pairs_in cycle jobs_of jobs_before jobs cycle_fits release common link_from link_to repeats links_of links edition_of spans_of links_in attributes_fit
    task_fits pair_key pair_fits pattern_key heading_fits pattern_fits opening_fits sound slot shows shown awake runs ticks first_tick last_tick number_at
    held got_at and_then times_from task_from on_task tasks_from two_at on_two pairs_from count_from heading_at on_heading on_pairs pattern_from on_pattern
    patterns_from opening_of middle_from on_opening on_tasks on_middle on_patterns head_from take_head taken_of high twin mated clashes strays strayed
    miscounts miscounted against bars broken breaks broken_pair broken_pattern high_at twice_at outside_at wrong_at broken_at plan_rules rules verdict_of
    judged_of
judge_cases_lem = refl
