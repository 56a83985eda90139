-- The second table, the dispatcher: starting and stepping, every refusal with every reason for it, and what state and output hold afterwards.
use Rattle.std.specs.Prelude.{refl, Bool, true, false, List, [], ◌∷◌, ◌++◌, ℕ, suc, ◌^◌, set, take, replicate}
use Rattle.vocabulary.specs.Least.{least, greatest, all}
use Rattle.vocabulary.specs.First.{first_of}
use Rattle.vocabulary.specs.Count.{count}
use Rattle.vocabulary.specs.Total.{total}
use Rattle.vocabulary.specs.Table.{table}
use Rattle.vocabulary.specs.Bits.{has, pack}
use Rattle.vocabulary.specs.Multiple.{lcm, lcm_of}
use Rattle.kinds.specs.Limits.{holds, rises}
use Rattle.kinds.specs.Editions.{edition_of}
use Rattle.kinds.specs.Tasks.{Set, pairs_in}
use Rattle.kinds.specs.Cycle.{cycle, jobs_of, jobs_before, jobs, cycle_fits}
use Rattle.kinds.specs.Jobs.{release}
use Rattle.kinds.specs.Links.{common, link_from, link_to, repeats, links_of, links, spans_of, links_in}
use Rattle.kinds.specs.Sound.{attributes_fit, task_fits, pair_key, pair_fits, pattern_key, heading_fits, pattern_fits, opening_fits, sound}
use Rattle.kinds.specs.Plans.{slot, shows, shown, awake, runs, ticks, first_tick, last_tick}
use Rattle.numbers.specs.Numbers.{number_at, held, got_at, and_then}
use Rattle.heads.specs.Tables.{times_from, task_from, on_task, tasks_from, two_at, on_two, pairs_from, count_from, heading_at, on_heading, on_pairs}
use Rattle.heads.specs.Tables.{pattern_from, on_pattern, patterns_from}
use Rattle.heads.specs.Heads.{opening_of, middle_from, on_opening, on_tasks, on_middle, on_patterns, head_from}
use Rattle.reader.specs.Files.{take_head, taken_of}
use Rattle.slots.specs.High.{high}
use Rattle.judge.specs.Rules.{twin, mated, clashes, strays, strayed, miscounts, miscounted, against, bars, broken, breaks, broken_pair, broken_pattern}
use Rattle.judge.specs.Judgement.{high_at, twice_at, outside_at, wrong_at, broken_at, plan_rules, rules, verdict_of}
use Rattle.dispatcher.specs.declared.State.{State}
use Rattle.dispatcher.specs.Steps.{releases, heard, done_at, done_of, asleep, byte_of, row_of, stands_at, in_row, ran_of, after_of, step_of}
use Rattle.dispatcher.specs.Refusals.{on_verdict, started_of, impossible, overreports, high_slot, is_high, high_place, step_rules, answer_by, if_shown}
use Rattle.dispatcher.specs.Refusals.{lengths_fit, answer_of, stepped_of, left_of}
use Rattle.dispatcher.specs.Bytes.{bytes, number, bytes_of, unclear, state_of}
use Rattle.dispatcher.specs.Outcome.{written_of}
use Rattle.dispatcher.specs.ForC.{first_bytes, start_rules, start_verdict, start_for, answer_in, step_for}
use Rattle.dispatcher.specs.Runs.{state_at, shown_at}
use Rattle.cases.specs.Samples.{small, small_head, small_slots}
use Rattle.cases.specs.Questions.{Row, Answered, leaves, rows, reply, task_numbers, raw_headings, raw_pairs, lent_set, silence, report_after}
use Rattle.cases.specs.Questions as ask

-- ---- states
state : ℕ → Bool → ℕ → ℕ → State
state t f d r = record { tick = t; first = f; done = d; ran = r }

-- 21 bytes: the tick's lowest byte at 0, the first cycle at 4, done from 5 on, ran from 13 on. At the start:
fresh : List ℕ
fresh = 0 ∷ 0 ∷ 0 ∷ 0 ∷ 1 ∷ replicate 16 0

-- a low tick, the first cycle or not, and low marks
state_bytes : ℕ → ℕ → ℕ → ℕ → List ℕ
state_bytes t f d r = set (set (set (set fresh 0 t) 4 f) 5 d) 13 r

-- 21 bytes of something else
other : List ℕ
other = replicate 21 7

-- ---- sets
small_set : Set
small_set = lent_set 1 1 ((2, 1, 0, 2) ∷ (4, 1, 0, 3) ∷ []) ((0, 1, 1) ∷ []) ((0, 0) ∷ [])

-- the small head for two processors, and with task 1 released at tick 2
two_head : List ℕ
two_head = set small_head 2 2

late_head : List ℕ
late_head = set small_head 9 2

-- edition 2: a job of task 1, released late, before task 0's job of the next round
next_head : List ℕ
next_head = 2 ∷ 2 ∷ 1 ∷ 4 ∷ 1 ∷ 0 ∷ 4 ∷ 4 ∷ 1 ∷ 3 ∷ 4 ∷ 1 ∷ 1 ∷ 0 ∷ 1 ∷ 0 ∷ 1 ∷ []

-- 64 tasks on eight processors, task 63 last
most_head : List ℕ
most_head = 1 ∷ 64 ∷ 8 ∷ (task_numbers (replicate 64 (8, 1, 0, 8)) ++ (0 ∷ []))

most_slots : List ℕ
most_slots = table suc 64

-- one task that fills 6,000 ticks
long_set : Set
long_set = lent_set 1 1 ((6000, 6000, 0, 6000) ∷ []) [] []

long_slots : List ℕ
long_slots = replicate 6000 1

-- eight full tasks
full_set : Set
full_set = lent_set 1 8 (replicate 8 (2, 2, 0, 2)) [] []

full_slots : List ℕ
full_slots = table suc 8 ++ table suc 8

-- ---- the table
pub dispatcher_cases : List Row
dispatcher_cases =
    -- Starting writes tick 0 of the first cycle, nobody done, nobody ran.
    (ask.starting_head small_head small_slots other, leaves (0 ∷ []) fresh [])
    ∷ (ask.starting small_set small_slots (state 3 false 1 2), leaves (0 ∷ []) fresh [])
    -- 10: a head with a byte left over, before a state of the wrong length; 11: a state of 20 and of 22 bytes, before 12, and a plan too short.
    ∷ (ask.starting_head (small_head ++ (0 ∷ [])) small_slots [], leaves (10 ∷ []) [] [])
    ∷ (ask.starting_head small_head (1 ∷ 2 ∷ 3 ∷ 0 ∷ []) (replicate 20 7), leaves (11 ∷ []) (replicate 20 7) [])
    ∷ (ask.starting_head small_head small_slots (replicate 22 7), leaves (11 ∷ []) (replicate 22 7) [])
    ∷ (ask.starting_head small_head (take 3 small_slots) other, leaves (11 ∷ []) other [])
    -- It refuses as the judge does, and leaves the state.
    ∷ (ask.starting_head small_head (1 ∷ 2 ∷ 3 ∷ 0 ∷ []) other, leaves (12 ∷ 2 ∷ []) other [])
    ∷ (ask.starting_head two_head (1 ∷ 1 ∷ 2 ∷ 0 ∷ 1 ∷ 0 ∷ 0 ∷ 0 ∷ []) other, leaves (20 ∷ 0 ∷ 0 ∷ 1 ∷ []) other [])
    ∷ (ask.starting_head small_head (1 ∷ 0 ∷ 1 ∷ 2 ∷ []) other, leaves (21 ∷ 3 ∷ 0 ∷ []) other [])
    ∷ (ask.starting_head small_head (0 ∷ 2 ∷ 1 ∷ 0 ∷ []) other, leaves (22 ∷ 0 ∷ 0 ∷ 0 ∷ 0 ∷ 0 ∷ []) other [])
    ∷ (ask.starting_head small_head (1 ∷ 2 ∷ 1 ∷ 1 ∷ []) other, leaves (22 ∷ 0 ∷ 1 ∷ 2 ∷ 2 ∷ 3 ∷ []) other [])
    ∷ (ask.starting_head small_head (2 ∷ 1 ∷ 1 ∷ 0 ∷ []) other, leaves (23 ∷ 0 ∷ 0 ∷ 0 ∷ []) other [])
    ∷ (ask.starting small_set (0 ∷ 2 ∷ 1 ∷ 0 ∷ []) (state 3 false 1 2), leaves (22 ∷ 0 ∷ 0 ∷ 0 ∷ 0 ∷ 0 ∷ []) (state_bytes 3 0 1 2) [])
    -- Edition 2 starts and steps as edition 1 does, a link into the next round is tested with the others, and edition 3 is not known.
    ∷ (ask.starting_head next_head (2 ∷ 1 ∷ 0 ∷ 0 ∷ []) other, leaves (0 ∷ []) fresh [])
    ∷ (ask.starting_head next_head (1 ∷ 2 ∷ 0 ∷ 0 ∷ []) other, leaves (23 ∷ 0 ∷ 0 ∷ 0 ∷ []) other [])
    ∷ (ask.starting_head (set next_head 0 1) (2 ∷ 1 ∷ 0 ∷ 0 ∷ []) other, leaves (10 ∷ []) other [])
    ∷ (ask.starting_head (set next_head 0 3) (2 ∷ 1 ∷ 0 ∷ 0 ∷ []) other, leaves (10 ∷ []) other [])
    ∷ (ask.stepping_head next_head (2 ∷ 1 ∷ 0 ∷ 0 ∷ []) 0 (state_bytes 0 0 0 0) (9 ∷ []), leaves (0 ∷ []) (state_bytes 1 0 0 2) (2 ∷ []))
    ∷ (ask.stepping_head next_head (2 ∷ 1 ∷ 0 ∷ 0 ∷ []) 2 (state_bytes 1 0 0 2) (9 ∷ []), leaves (0 ∷ []) (state_bytes 2 0 2 1) (1 ∷ []))
    ∷ (ask.stepping_head (set next_head 0 3) (2 ∷ 1 ∷ 0 ∷ 0 ∷ []) 0 fresh (9 ∷ []), leaves (10 ∷ []) fresh (9 ∷ []))
    -- A step shows the tick's slot, marks who ran, and goes on by a tick.
    ∷ (ask.stepping_head small_head small_slots 0 fresh (9 ∷ []), leaves (0 ∷ []) (state_bytes 1 1 0 1) (1 ∷ []))
    -- A report of a task that ran is heard; the mark stays until the task's next release.
    ∷ (ask.stepping_head small_head small_slots 1 (state_bytes 1 1 0 1) (9 ∷ []), leaves (0 ∷ []) (state_bytes 2 1 1 2) (2 ∷ []))
    ∷ (ask.stepping_head small_head small_slots 0 (state_bytes 2 1 1 2) (9 ∷ []), leaves (0 ∷ []) (state_bytes 3 1 0 1) (1 ∷ []))
    -- A report of a task that did not run is not heard.
    ∷ (ask.stepping_head small_head small_slots 2 (state_bytes 1 1 0 1) (9 ∷ []), leaves (0 ∷ []) (state_bytes 2 1 0 2) (2 ∷ []))
    -- A task that is done is not shown.
    ∷ (ask.stepping_head small_head small_slots 0 (state_bytes 1 1 2 1) (9 ∷ []), leaves (0 ∷ []) (state_bytes 2 1 2 0) (0 ∷ []))
    -- A report is heard before a release at this tick clears the mark.
    ∷ (ask.stepping_head small_head small_slots 1 (state_bytes 2 1 0 1) (9 ∷ []), leaves (0 ∷ []) (state_bytes 3 1 0 1) (1 ∷ []))
    -- The last tick of the cycle goes on to tick 0 and ends the first cycle; later cycles stay later ones.
    ∷ (ask.stepping_head small_head small_slots 0 (state_bytes 3 1 0 1) (9 ∷ []), leaves (0 ∷ []) (state_bytes 0 0 0 0) (0 ∷ []))
    ∷ (ask.stepping_head small_head small_slots 0 (state_bytes 0 0 0 0) (9 ∷ []), leaves (0 ∷ []) (state_bytes 1 0 0 1) (1 ∷ []))
    -- Before its first release a task is not shown in the first cycle, and is in later ones.
    ∷ (ask.stepping_head late_head small_slots 0 (state_bytes 1 1 0 1) (9 ∷ []), leaves (0 ∷ []) (state_bytes 2 1 0 0) (0 ∷ []))
    ∷ (ask.stepping_head late_head small_slots 0 (state_bytes 1 0 0 1) (9 ∷ []), leaves (0 ∷ []) (state_bytes 2 0 0 2) (2 ∷ []))
    -- 10 comes before 11: a byte left over; a head cut short; m of 9 by value.
    ∷ (ask.stepping_head (small_head ++ (0 ∷ [])) small_slots 0 fresh [], leaves (10 ∷ []) fresh [])
    ∷ (ask.stepping_head (take 16 small_head) small_slots 0 fresh (9 ∷ []), leaves (10 ∷ []) fresh (9 ∷ []))
    ∷ (ask.stepping (lent_set 1 9 ((2, 1, 0, 2) ∷ []) [] []) [] (state 0 true 0 0) 0 [], leaves (10 ∷ []) fresh [])
    -- 11 comes before 30: a plan of three slots and of five, an output of none and of two, a state of 20 and of 22 bytes.
    ∷ (ask.stepping_head small_head (1 ∷ 2 ∷ 1 ∷ []) 0 (state_bytes 4 1 0 0) (9 ∷ []), leaves (11 ∷ []) (state_bytes 4 1 0 0) (9 ∷ []))
    ∷ (ask.stepping_head small_head (1 ∷ 2 ∷ 1 ∷ 0 ∷ 0 ∷ []) 0 fresh (9 ∷ []), leaves (11 ∷ []) fresh (9 ∷ []))
    ∷ (ask.stepping_head small_head small_slots 0 fresh [], leaves (11 ∷ []) fresh [])
    ∷ (ask.stepping_head small_head small_slots 0 fresh (9 ∷ 9 ∷ []), leaves (11 ∷ []) fresh (9 ∷ 9 ∷ []))
    ∷ (ask.stepping_head small_head small_slots 0 (take 20 fresh) (9 ∷ []), leaves (11 ∷ []) (take 20 fresh) (9 ∷ []))
    ∷ (ask.stepping_head small_head small_slots 0 (fresh ++ (0 ∷ [])) (9 ∷ []), leaves (11 ∷ []) (fresh ++ (0 ∷ [])) (9 ∷ []))
    ∷ (ask.stepping small_set (1 ∷ 2 ∷ 1 ∷ []) (state 0 true 0 0) 0 (9 ∷ []), leaves (11 ∷ []) fresh (9 ∷ []))
    ∷ (ask.stepping small_set small_slots (state 0 true 0 0) 0 (9 ∷ 9 ∷ []), leaves (11 ∷ []) fresh (9 ∷ 9 ∷ []))
    -- 30: a tick of H, one that is high in its last byte; before 31. The tick before H is possible.
    ∷ (ask.stepping_head small_head small_slots 4 (state_bytes 4 1 0 0) (9 ∷ []), leaves (30 ∷ []) (state_bytes 4 1 0 0) (9 ∷ []))
    ∷ (ask.stepping_head small_head small_slots 0 (set fresh 3 1) (9 ∷ []), leaves (30 ∷ []) (set fresh 3 1) (9 ∷ []))
    ∷ (ask.stepping small_set small_slots (state 4 true 0 0) 0 (9 ∷ []), leaves (30 ∷ []) (state_bytes 4 1 0 0) (9 ∷ []))
    -- A first-cycle byte that is neither 0 nor 1.
    ∷ (ask.stepping_head small_head small_slots 0 (set fresh 4 2) (9 ∷ []), leaves (30 ∷ []) (set fresh 4 2) (9 ∷ []))
    ∷ (ask.stepping_head small_head small_slots 0 (set fresh 4 255) (9 ∷ []), leaves (30 ∷ []) (set fresh 4 255) (9 ∷ []))
    -- A done mark of task 2, of which there is none, and of task 63.
    ∷ (ask.stepping_head small_head small_slots 0 (set fresh 5 4) (9 ∷ []), leaves (30 ∷ []) (set fresh 5 4) (9 ∷ []))
    ∷ (ask.stepping_head small_head small_slots 0 (set fresh 12 128) (9 ∷ []), leaves (30 ∷ []) (set fresh 12 128) (9 ∷ []))
    ∷ (ask.stepping small_set small_slots (state 0 true 4 0) 0 (9 ∷ []), leaves (30 ∷ []) (state_bytes 0 1 4 0) (9 ∷ []))
    -- A ran mark of task 2, and of task 63.
    ∷ (ask.stepping_head small_head small_slots 0 (set fresh 13 4) (9 ∷ []), leaves (30 ∷ []) (set fresh 13 4) (9 ∷ []))
    ∷ (ask.stepping_head small_head small_slots 0 (set fresh 20 128) (9 ∷ []), leaves (30 ∷ []) (set fresh 20 128) (9 ∷ []))
    ∷ (ask.stepping small_set small_slots (state 0 true 0 4) 0 (9 ∷ []), leaves (30 ∷ []) (state_bytes 0 1 0 4) (9 ∷ []))
    -- All marks of the two tasks are possible, also where no run comes to them.
    ∷ (ask.stepping_head small_head small_slots 3 (state_bytes 3 1 3 3) (9 ∷ []), leaves (0 ∷ []) (state_bytes 0 0 3 0) (0 ∷ []))
    -- 31: a report of task 2, and of task 63; before 12.
    ∷ (ask.stepping_head small_head (3 ∷ 2 ∷ 1 ∷ 0 ∷ []) 4 fresh (9 ∷ []), leaves (31 ∷ []) fresh (9 ∷ []))
    ∷ (ask.stepping_head small_head small_slots (2 ^ 63) fresh (9 ∷ []), leaves (31 ∷ []) fresh (9 ∷ []))
    ∷ (ask.stepping small_set small_slots (state 1 true 0 1) 5 (9 ∷ []), leaves (31 ∷ []) (state_bytes 1 1 0 1) (9 ∷ []))
    -- 12: the place in the plan of a slot of this tick; the slots of other ticks are not looked at.
    ∷ (ask.stepping_head small_head (1 ∷ 2 ∷ 3 ∷ 0 ∷ []) 0 (state_bytes 2 1 0 2) (9 ∷ []), leaves (12 ∷ 2 ∷ []) (state_bytes 2 1 0 2) (9 ∷ []))
    ∷ (ask.stepping_head small_head (1 ∷ 2 ∷ 3 ∷ 0 ∷ []) 0 (state_bytes 1 1 0 1) (9 ∷ []), leaves (0 ∷ []) (state_bytes 2 1 0 2) (2 ∷ []))
    ∷ (
      ask.stepping_head two_head (1 ∷ 0 ∷ 2 ∷ 3 ∷ 1 ∷ 0 ∷ 0 ∷ 0 ∷ []) 0 (state_bytes 1 1 0 1) (9 ∷ 9 ∷ []),
      leaves (12 ∷ 3 ∷ []) (state_bytes 1 1 0 1) (9 ∷ 9 ∷ []),
    )
    ∷ (ask.stepping small_set (1 ∷ 3 ∷ 3 ∷ 0 ∷ []) (state 1 true 0 1) 0 (9 ∷ []), leaves (12 ∷ 1 ∷ []) (state_bytes 1 1 0 1) (9 ∷ []))
    -- Task 63 reports after a tick that it ran in, and is not shown on the last of eight processors.
    ∷ (
      ask.stepping_head most_head most_slots (2 ^ 63) (set (state_bytes 7 1 0 0) 20 128) (replicate 8 9),
      leaves (0 ∷ []) (set (set (state_bytes 0 0 0 0) 12 128) 20 127) (57 ∷ 58 ∷ 59 ∷ 60 ∷ 61 ∷ 62 ∷ 63 ∷ 0 ∷ []),
    )
    -- H = 6,000: the last tick, and a tick too far.
    ∷ (ask.stepping long_set long_slots (state 5999 true 0 1) 0 (9 ∷ []), leaves (0 ∷ []) (state_bytes 0 0 0 1) (1 ∷ []))
    ∷ (
      ask.stepping long_set long_slots (state 6000 true 0 1) 0 (9 ∷ []),
      leaves (30 ∷ []) (set (state_bytes 0x70 1 0 1) 1 0x17) (9 ∷ []),
    )
    -- Eight tasks on eight processors, where task 7 reports after tick 2: it is not shown at tick 3, and again from its release at tick 4 on.
    ∷ (
      ask.playing full_set full_slots (report_after 7 2) 2 3,
      rows (table suc 8 ∷ (table suc 7 ++ (0 ∷ [])) ∷ table suc 8 ∷ []),
    )
    ∷ []

-- ==== The dispatcher's definitions answer each of them so.
pub dispatcher_cases_lem : Answered dispatcher_cases
unfolding dispatcher_cases state fresh state_bytes other small_set two_head late_head next_head most_head most_slots long_set long_slots full_set full_slots
    small small_head small_slots reply task_numbers raw_headings raw_pairs lent_set silence report_after least greatest all first_of count total table has
    pack lcm lcm_of holds rises pairs_in cycle jobs_of jobs_before jobs cycle_fits release common link_from link_to repeats links_of links edition_of spans_of
    links_in attributes_fit task_fits pair_key pair_fits pattern_key heading_fits pattern_fits opening_fits sound slot shows shown awake runs ticks first_tick
    last_tick number_at held got_at and_then times_from task_from on_task tasks_from two_at on_two pairs_from count_from heading_at on_heading on_pairs
    pattern_from on_pattern patterns_from opening_of middle_from on_opening on_tasks on_middle on_patterns head_from take_head taken_of high twin mated
    clashes strays strayed miscounts miscounted against bars broken breaks broken_pair broken_pattern high_at twice_at outside_at wrong_at broken_at
    plan_rules rules verdict_of releases heard done_at done_of asleep byte_of row_of stands_at in_row ran_of after_of step_of on_verdict started_of impossible
    overreports high_slot is_high high_place step_rules answer_by if_shown lengths_fit answer_of stepped_of left_of bytes number bytes_of unclear state_of
    written_of first_bytes start_rules start_verdict start_for answer_in step_for state_at shown_at
dispatcher_cases_lem = refl
