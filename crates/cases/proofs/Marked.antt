-- The marked cases are answered so by the definitions.
use Rattle.std.specs.Prelude.{refl}
use Rattle.vocabulary.specs.Least.{least, greatest, all}
use Rattle.vocabulary.specs.First.{first_of}
use Rattle.vocabulary.specs.Count.{count}
use Rattle.vocabulary.specs.Total.{total}
use Rattle.vocabulary.specs.Table.{table, join, gather}
use Rattle.vocabulary.specs.Bits.{has, pack}
use Rattle.vocabulary.specs.Multiple.{lcm, lcm_of}
use Rattle.graph.specs.Graph.{reach, loops}
use Rattle.graph.specs.Longest as longest
use Rattle.graph.specs.Soonest as soonest
use Rattle.kinds.specs.Limits.{holds, rises}
use Rattle.kinds.specs.Editions.{edition_of}
use Rattle.kinds.specs.Tasks.{pairs_in}
use Rattle.kinds.specs.Cycle.{cycle, jobs_of, jobs_before, jobs, cycle_fits}
use Rattle.kinds.specs.Jobs.{release, due, in_window, number_of_job, task_of_job, job_of_job}
use Rattle.kinds.specs.Links.{common, link_from, link_to, repeats, links_of, links, inner, spans_of, links_in}
use Rattle.kinds.specs.Sound.{attributes_fit, task_fits, pair_key, pair_fits, pattern_key, heading_fits, pattern_fits, opening_fits, sound}
use Rattle.kinds.specs.Plans.{slot, shows, shown, awake, runs, ticks, first_tick, last_tick}
use Rattle.numbers.specs.Numbers.{number_at, held, got_at, and_then}
use Rattle.heads.specs.Tables.{times_from, task_from, on_task, tasks_from, two_at, on_two, pairs_from, count_from, heading_at, on_heading, on_pairs}
use Rattle.heads.specs.Tables.{pattern_from, on_pattern, patterns_from}
use Rattle.heads.specs.Heads.{opening_of, middle_from, on_opening, on_tasks, on_middle, on_patterns, head_from}
use Rattle.reader.specs.Files.{slots_from, on_slots, on_head, read_of}
use Rattle.slots.specs.High.{high}
use Rattle.judge.specs.Rules.{twin, mated, clashes, strays, strayed, miscounts, miscounted, against, bars, broken, breaks, broken_pair, broken_pattern}
use Rattle.judge.specs.Judgement.{high_at, twice_at, outside_at, wrong_at, broken_at, plan_rules, rules, verdict_of}
use Rattle.network.specs.Network.{pair_links, pattern_links, cycle_links, link_starts, link_ends, network}
use Rattle.network.specs.Times.{own_release, own_due, own_running, release_by, adjusted_deadline}
use Rattle.network.specs.Causes.{on_cycle, load, room, tight_by}
use Rattle.screen.specs.Findings.{screen_rules, finding_by}
use Rattle.dispatcher.specs.Steps.{releases, heard, done_at, done_of, asleep, byte_of, row_of, stands_at, in_row, ran_of, after_of, step_of}
use Rattle.dispatcher.specs.Runs.{state_at, shown_at}
use Rattle.cases.specs.Questions.{Answered, reply, number_reply}
use Rattle.cases.specs.Questions.{task_numbers, heading_numbers, pair_numbers, set_of, silence, report_after}
use Rattle.cases.specs.Marked.{file_a, set_a, slots_a, set_c, slots_c, set_d, slots_d, set_g, set_h, set_i, set_j, set_k, minus, cases}

-- ==== The definitions answer every marked case as it is printed.
pub marked_cases : Answered cases
unfolding cases file_a set_a slots_a set_c slots_c set_d slots_d set_g set_h set_i set_j set_k minus reply number_reply task_numbers heading_numbers
    pair_numbers set_of silence report_after least greatest all count total table join gather has pack lcm lcm_of reach loops longest.most longest.entry
    longest.rounds soonest.fewest soonest.due soonest.soonest holds rises pairs_in cycle jobs_of jobs_before jobs cycle_fits release due in_window
    number_of_job task_of_job job_of_job common link_from link_to repeats links_of links inner edition_of spans_of links_in attributes_fit task_fits pair_key
    pair_fits pattern_key heading_fits pattern_fits opening_fits sound slot shows shown awake runs ticks first_tick last_tick number_at held got_at and_then
    times_from task_from on_task tasks_from two_at on_two pairs_from count_from heading_at on_heading on_pairs pattern_from on_pattern patterns_from
    opening_of middle_from on_opening on_tasks on_middle on_patterns head_from slots_from on_slots on_head read_of high twin mated clashes strays strayed
    miscounts miscounted against bars broken breaks broken_pair broken_pattern high_at twice_at outside_at wrong_at broken_at first_of plan_rules rules
    verdict_of pair_links pattern_links cycle_links link_starts link_ends network own_release own_due own_running release_by adjusted_deadline on_cycle load
    room tight_by screen_rules finding_by releases heard done_at done_of asleep byte_of row_of stands_at in_row ran_of after_of step_of state_at shown_at
marked_cases = refl
