-- What the rules from 12 on ask: a sound set, its cycle, and a plan of the right length. From it comes what each part of the judge asks.
use Prim.Native.Nat.{ℕ, ◌≤◌}
use native.Mathlib.Omega.{arith}
use lib.ListN.{get_or}
use Rattle.kinds.specs.Tasks.{Tasks, Patterns}
use Rattle.kinds.specs.Plans.{Plan}
use Rattle.judge.specs.JobOfSlot.{Fit}
use Rattle.judge.specs.TableNeeds.{Countable, PlanNeeds}

pub fit_needs : (u : Tasks) (v : Patterns) (p : Plan) → PlanNeeds u v p → ((e : ℕ) → get_or p.slots e 0 ≤ u.count) → Fit u p
fit_needs u v p a low =
    let f = a.sound in
    record {
      few_tasks = f.few_tasks;
      some_processors = f.some_processors;
      few_processors = f.few_processors;
      some_period = f.some_period;
      low_period = f.low_period;
      offset_low = f.offset_low;
      some_deadline = λ i l. omega (arith, f.some_running i l, f.running_low i l);
      deadline_low = f.deadline_low;
      divides = λ i l. rw a.ticks (f.divides i l);
      ticks = a.ticks;
      some_cycle = rw a.ticks f.some_cycle;
      low_cycle = rw a.ticks f.low_cycle;
      few_jobs = f.few_jobs;
      long = omega (arith, a.long);
      low_slots = low;
    }

pub countable : (u : Tasks) (p : Plan) → Fit u p → Countable u p.cycle
countable u p f = record { few = f.few_tasks; some_period = f.some_period; ticks = f.ticks; few_jobs = f.few_jobs }
