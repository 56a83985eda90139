-- The times of a cycle's jobs in a row: own ones, written task by task, and the adjusted ones that rounds leave of them.
use Rattle.std.specs.Prelude.{◌≡◌, refl, Bool, true, false, ◌&&◌, List, [], ◌∷◌, ◌⊎◌, ℕ, suc, ◌+◌, ◌-◌, ◌*◌, ◌/◌, ◌≤◌, ◌<◌, eqb, ltb, ℤ, pos, get_or, set, Option, Some, None}
use Rattle.std.proofs.Common.{sym, ◌∙◌, inl, inr, div-add-mod', mul-le-mul, le_refl, add-one, arith, eq-eqb, ne_eqb, lt-ltb}
use Rattle.std.proofs.Math.Path.{ap}
use Rattle.std.proofs.Math.IntN.{sub_ℕ}
use Rattle.std.proofs.Math.ListN.{length}
use Rattle.vocabulary.specs.Test.{pick}
use Rattle.vocabulary.proofs.Test.{clash, lt_or_le}
use Rattle.vocabulary.specs.Least as least
use Rattle.vocabulary.specs.Least.{least}
use Rattle.vocabulary.proofs.Total.{total_none}
use Rattle.vocabulary.specs.Table.{table}
use Rattle.vocabulary.proofs.Table.{is_table, length_table, get_or_table}
use Rattle.graph.specs.Graph.{Graph, graph_of, lowest, lowest_job as job_in, loops}
use Rattle.graph.specs.Reach.{Free}
use Rattle.graph.specs.Longest.{rounds}
use Rattle.graph.specs.Soonest.{soonest}
use Rattle.graph.specs.Column.{column}
use Rattle.graph.proofs.Column.{column_long, column_at}
use Rattle.graph.specs.Pass.{limit, at, Settled}
use Rattle.graph.specs.Cycle.{Between, Falling}
use Rattle.graph.proofs.Cycle.{fallen, fallen_free}
use Rattle.graph.specs.JobRows as row
use Rattle.graph.specs.JobRows.{starts, ends, Ready, Rounds}
use Rattle.graph.specs.SearchRows.{SearchAsked}
use Rattle.graph.specs.Listed.{Weighted}
use Rattle.graph.proofs.Listed.{settled_rounds, settled_soonest}
use Rattle.vocabulary.proofs.Least.{some_least, none_least, some_not, lowest_none}
use Rattle.loops.specs.LentLinks.{lowest_in}
use Rattle.loops.proofs.LentLaws.{lowest_of}
use Rattle.kinds.specs.declared.Task.{Task}
use Rattle.kinds.specs.Tasks.{Tasks, Set, task_at, period, running, offset, deadline, task_in, task_in_lem}
use Rattle.kinds.specs.Cycle.{cycle, jobs_of, jobs_before, jobs}
use Rattle.kinds.specs.Jobs.{release, due, number_of_job, task_of_job, job_of_job}
use Rattle.kinds.proofs.SoundFacts.{Sound}
use Rattle.laws.proofs.Order.{before_suc, before_up, number_sum, task_of_number, job_of_number}
use Rattle.network.specs.Times.{own_release, own_due, own_running}
use Rattle.network.specs.TimesLaws.{own_release_low, own_due_low, own_running_low}
use Rattle.network.specs.declared.Job.{Job}
use Rattle.network.specs.declared.Trouble.{Trouble}
use Rattle.network.specs.declared.Trouble.TheVariants as trouble
use Rattle.network.specs.Named.{job_at, JobAsked}
use Rattle.network.specs.FoundOf.{tight_by}
use Rattle.network.specs.Placed.{Placed, place_from, place_on}

-- tick 12,000: no own deadline is later
abbrev pub top : ℕ
top = 12000

-- what is known of tasks whose times are written, in a cycle of h ticks
pub record TasksFit (u : Tasks) (h : ℕ) : Type 0 where
  pub few : u.count ≤ 64
  pub ticks : h ≡ cycle u
  pub short : h ≤ 6000
  pub few_jobs : jobs u ≤ 2048
  pub some : (i : ℕ) → i < u.count → 0 < period u i
  pub periods : (i : ℕ) → i < u.count → period u i ≤ 6000
  pub offsets : (i : ℕ) → i < u.count → offset u i ≤ period u i
  pub deadlines : (i : ℕ) → i < u.count → deadline u i ≤ 6000
  pub early : (x : ℕ) → x < jobs u → own_release u x ≤ top
  pub late : (x : ℕ) → x < jobs u → own_due u x ≤ top
  pub light : (x : ℕ) → x < jobs u → own_running u x ≤ 6000

pub tasks_fit : (s : Set) (h : ℕ) → Sound s → h ≡ cycle s.tasks → TasksFit s.tasks h
tasks_fit s h f e =
    record {
      few = f.few_tasks;
      ticks = e;
      short = omega (arith, f.low_cycle);
      few_jobs = f.few_jobs;
      some = f.some_period;
      periods = f.low_period;
      offsets = λ i l. omega (arith, f.offset_low i l);
      deadlines = λ i l. omega (arith, f.deadline_low i l, f.low_period i l);
      early = λ x l. omega (arith, own_release_low s f x l);
      late = own_due_low s f;
      light = own_running_low s f;
    }

-- ---- own times
-- job j of a task
abbrev pub job_row : Task → ℕ → List ℕ
job_row t j = t.running ∷ (t.offset + j * t.period) ∷ (top - t.deadline - (t.offset + j * t.period)) ∷ []

-- what writing k of them from place b on asks of a row of so many places
pub record JobsAsked (b k : ℕ) (t : Task) (size : ℕ) : Type 0 where
  pub room : b + k ≤ size
  pub late : t.deadline ≤ top
  pub low : (j : ℕ) → j < k → t.offset + j * t.period ≤ top - t.deadline
  pub small : t.offset + k * t.period < 65536

-- n of k are written, and the next release is r
pub record JobsMade (b k c d z r₀ : ℕ) (v v' : List (List ℕ)) (r n : ℕ) : Type 0 where
  pub within : n ≤ k
  pub next : r ≡ r₀ + n * d
  pub done : Placed b n (λ j. c ∷ (r₀ + j * d) ∷ (z - (r₀ + j * d)) ∷ []) v v'

pub jobs_from : (b k c d z r₀ : ℕ) (v : List (List ℕ)) → JobsMade b k c d z r₀ v v r₀ 0
jobs_from b k c d z r₀ v =
    record { within = omega arith; next = omega arith; done = place_from b (λ j. c ∷ (r₀ + j * d) ∷ (z - (r₀ + j * d)) ∷ []) v }

module _ (b k : ℕ) (t : Task) (v v' : List (List ℕ)) (r n : ℕ) (q : JobsAsked b k t (length v))
    (p : JobsMade b k t.running t.period (top - t.deadline) t.offset v v' r n) (l : n < k) where
  pub jobs_place : b + n < length v'
  jobs_place = omega (arith, q.room, p.done.long)

  pub jobs_low : r ≤ top - t.deadline
  jobs_low = omega (arith, p.next, q.low n l)

  pub jobs_small : r + t.period < 65536
  jobs_small = omega (arith, p.next, q.small, mul-le-mul (let g : suc n ≤ k = omega arith in g) (le_refl t.period))

  pub jobs_on : JobsMade b k t.running t.period (top - t.deadline) t.offset v
      (set v' (b + n) (t.running ∷ r ∷ (top - t.deadline - r) ∷ [])) (r + t.period) (n + 1)
  jobs_on =
      record {
        within = omega arith;
        next = omega (arith, p.next);
        done = place_on b n (job_row t) v v' (t.running ∷ r ∷ (top - t.deadline - r) ∷ []) p.done (omega (arith, q.room))
            (ap (λ (x : ℕ). t.running ∷ x ∷ (top - t.deadline - x) ∷ []) p.next);
      }

-- the job with number x
abbrev pub own_row : Tasks → ℕ → List ℕ
own_row u x = own_running u x ∷ own_release u x ∷ (top - own_due u x) ∷ []

-- a row with a place for each job
pub record OwnAsked (u : Tasks) (h : ℕ) (rows : List (List ℕ)) : Type 0 where
  pub fit : TasksFit u h
  pub sized : length rows ≡ jobs u

-- the jobs below number b stand in it
pub record OwnBelow (u : Tasks) (rows : List (List ℕ)) (b : ℕ) : Type 0 where
  pub sized : length rows ≡ jobs u
  pub each : (x : ℕ) → x < b → get_or rows x [] ≡ own_row u x

abbrev pub OwnRows : Tasks → List (List ℕ) → Type 0
OwnRows u rows = OwnBelow u rows (jobs u)

-- the walk has come to task i, whose first job has number b
pub record Owning (u : Tasks) (rows : List (List ℕ)) (b i : ℕ) : Type 0 where
  pub within : i ≤ u.count
  pub first : b ≡ jobs_before u i
  pub done : OwnBelow u rows b

before_none : (u : Tasks) → jobs_before u 0 ≡ 0
unfolding jobs_before
before_none u = total_none (jobs_of u)

pub own_from : (u : Tasks) (h : ℕ) (rows : List (List ℕ)) → OwnAsked u h rows → Owning u rows 0 0
own_from u h rows a =
    record { within = omega arith; first = sym (before_none u); done = record { sized = a.sized; each = λ x l. absurd (omega arith) } }

-- a job's row, by its task i and its place j
own_is : (u : Tasks) (x i j : ℕ) → task_of_job u x ≡ i → job_of_job u x ≡ j → job_row (task_at u.attributes i) j ≡ own_row u x
unfolding own_running own_release own_due release due
own_is u x i j ei ej =
    rw (ei, ej) (ap (λ (z : ℕ). running u i ∷ (offset u i + j * period u i) ∷ z ∷ [])
    (let g : top - deadline u i - (offset u i + j * period u i) ≡ top - (offset u i + j * period u i + deadline u i) = omega arith in g))

module _ (u : Tasks) (h : ℕ) (rows₀ rows : List (List ℕ)) (b i : ℕ) (a : OwnAsked u h rows₀) (p : Owning u rows b i) (l : i < u.count) {t : Task}
    (et : t ≡ task_in u.attributes i) where
  task_is : t ≡ task_at u.attributes i
  task_is = et ∙ task_in_lem u.attributes i (omega (arith, a.fit.few))

  pub own_some : 0 < t.period
  own_some = rw task_is (a.fit.some i l)

  module _ {k : ℕ} (e : k ≡ h / t.period) where
    share : k ≡ h / period u i
    share = e ∙ ap (λ (x : Task). h / x.period) task_is

    jobs_is : k ≡ jobs_of u i
    unfolding jobs_of
    jobs_is = share ∙ ap (λ (x : ℕ). x / period u i) a.fit.ticks

    -- its jobs have room, and the steps stay low
    own_room : b + k ≤ jobs u
    unfolding jobs
    own_room = omega (arith, p.first, jobs_is, before_suc u i, before_up u (suc i) u.count (omega arith))

    own_steps : k * period u i ≤ 6000
    own_steps = omega (arith, ap (λ (x : ℕ). x * period u i) share, div-add-mod' h (period u i), a.fit.short)

    pub own_jobs : JobsAsked b k t (length rows)
    own_jobs =
        rw task_is
        (record {
          room = omega (arith, own_room, p.done.sized);
          late = omega (arith, a.fit.deadlines i l);
          low =
              λ j lj. omega (
                arith,
                a.fit.deadlines i l,
                a.fit.offsets i l,
                own_steps,
                mul-le-mul (let g : suc j ≤ k = omega arith in g)
                    (le_refl (period u i)),
              );
          small = omega (arith, own_steps, a.fit.offsets i l, a.fit.periods i l);
        })

    pub own_fits : b + k ≤ 2048
    own_fits = omega (arith, own_room, a.fit.few_jobs)

    pub own_on : (rows' : List (List ℕ)) → Placed b k (job_row t) rows rows' → Owning u rows' (b + k) (i + 1)
    own_on rows' q =
        record {
          within = omega arith;
          first = omega (arith, p.first, jobs_is, before_suc u i, ap (jobs_before u) (add-one i));
          done = record { sized = q.long ∙ p.done.sized; each = λ x lx. both x lx (lt_or_le x b) };
        }
      where
        number_is : (j : ℕ) → b + j ≡ number_of_job u i j
        number_is j = omega (arith, number_sum u i j, p.first)

        both : (x : ℕ) → x < b + k → (x < b) ⊎ (b ≤ x) → get_or rows' x [] ≡ own_row u x
        both x lx (inl m) = q.there x m ∙ p.done.each x m
        both x lx (inr m) =
            let j : ℕ = x - b in
            let g : b + j ≡ x = omega arith in
            let lj : j < k = omega arith in
            let ln : j < jobs_of u i = omega (arith, jobs_is) in
            ap (λ (y : ℕ). get_or rows' y []) (sym g)
            ∙ q.here j lj
            ∙ ap (λ (y : Task). job_row y j) task_is
            ∙ own_is u (b + j) i j (ap (task_of_job u) (number_is j) ∙ task_of_number u i j l ln) (ap (job_of_job u) (number_is j) ∙ job_of_number u i j l ln)
            ∙ ap (own_row u) g

pub own_end : (u : Tasks) (rows : List (List ℕ)) (b i : ℕ) → Owning u rows b i → u.count ≤ i → OwnRows u rows
unfolding jobs
own_end u rows b i p l =
    let g : i ≡ u.count = omega (arith, p.within) in
    rw (p.first ∙ ap (jobs_before u) g) at p.done

-- ---- adjusted times
-- running times, adjusted releases, and how far before tick 12,000 each adjusted deadline lies
pub record TimesIn (u : Tasks) (links rows : List (List ℕ)) : Type 0 where
  pub sized : length rows ≡ jobs u
  pub runs : (x : ℕ) → x < jobs u → at (row.runs rows) x ≡ own_running u x
  pub releases : (x : ℕ) → x < jobs u
      → at (row.releases rows) x ≡ rounds (graph_of (starts links) (ends links) (jobs u)) (own_release u) (own_running u) (jobs u) x
  pub deadlines : (x : ℕ) → x < jobs u
      → sub_ℕ top (at (row.aheads rows) x) ≡ soonest (graph_of (starts links) (ends links) (jobs u)) (own_due u) (own_running u) (jobs u) x
  pub light : (x : ℕ) → x < jobs u → at (row.runs rows) x ≤ 6000
  pub early : (x : ℕ) → x < jobs u → at (row.releases rows) x ≤ limit
  pub late : (x : ℕ) → x < jobs u → at (row.aheads rows) x ≤ limit

-- what they ask: links between the jobs, and a row to write them in
pub record RoundsAsked (u : Tasks) (h : ℕ) (links rows : List (List ℕ)) : Type 0 where
  pub own : OwnAsked u h rows
  pub between : Between (starts links) (ends links) (jobs u)

module _ (u : Tasks) (h : ℕ) (links rows₀ rows : List (List ℕ)) (a : RoundsAsked u h links rows₀) (own : OwnRows u rows) where
  run_is : (x : ℕ) → x < jobs u → at (row.runs rows) x ≡ own_running u x
  run_is x l = column_at 0 rows x ∙ ap (λ (r : List ℕ). get_or r 0 0) (own.each x l)

  release_is : (x : ℕ) → x < jobs u → at (row.releases rows) x ≡ own_release u x
  release_is x l = column_at 1 rows x ∙ ap (λ (r : List ℕ). get_or r 1 0) (own.each x l)

  ahead_is : (x : ℕ) → x < jobs u → at (row.aheads rows) x ≡ top - own_due u x
  ahead_is x l = column_at 2 rows x ∙ ap (λ (r : List ℕ). get_or r 2 0) (own.each x l)

  here : (x : ℕ) → x < length rows → x < jobs u
  here x l = omega (arith, own.sized)

  pub own_ready : Ready links rows
  own_ready =
      let e = own.sized in
      record {
        between = rw e a.between;
        light = λ x l. omega (arith, run_is x (here x l), a.own.fit.light x (here x l));
        early = λ x l. omega (arith, release_is x (here x l), a.own.fit.early x (here x l));
        late = λ x l. omega (arith, ahead_is x (here x l));
      }

  -- either time, in column c, from own numbers b: each link adds a running time
  weights : (c : ℕ) (b : ℕ → ℕ) → ((x : ℕ) → x < jobs u → at (column c rows) x ≡ b x) → ((x : ℕ) → x < jobs u → b x ≤ top)
      → Weighted (row.runs rows) (column c rows) (jobs u) b (own_running u) top 6000
  weights c b is low =
      record {
        weights = column_long 0 rows ∙ own.sized;
        numbers = column_long c rows ∙ own.sized;
        weight = run_is;
        own = is;
        light = a.own.fit.light;
        low = low;
        small = omega (arith, a.own.fit.few_jobs);
        heavy = omega arith;
      }

  -- ==== what the rounds leave
  times_are : (rows' : List (List ℕ)) → Rounds links rows rows' (length rows) → Free (graph_of (starts links) (ends links) (jobs u)) → TimesIn u links rows'
  times_are rows' p free =
      let settled₁ : Settled (starts links) (ends links) (row.runs rows) (row.releases rows) (row.releases rows') = rw (column_long 1 rows) p.release in
      let settled₂ : Settled (ends links) (starts links) (row.runs rows) (row.aheads rows) (row.aheads rows') = rw (column_long 2 rows) p.ahead in
      let run' : (x : ℕ) → x < jobs u → at (row.runs rows') x ≡ own_running u x = λ x l. ap (λ (xs : List ℕ). at xs x) p.same ∙ run_is x l in
      record {
        sized = p.long ∙ own.sized;
        runs = run';
        releases =
            settled_rounds (starts links) (ends links) (row.runs rows) (row.releases rows) (jobs u) (own_release u) (own_running u) top 6000
            a.between (weights 1 (own_release u) release_is a.own.fit.early) (row.releases rows') settled₁ free;
        deadlines =
            settled_soonest (starts links) (ends links) (row.runs rows) (row.aheads rows) (row.aheads rows') (jobs u) top 6000 (own_due u)
            (own_running u) a.between (weights 2 (λ x. top - own_due u x) ahead_is (λ x l. omega arith)) settled₂ free a.own.fit.late;
        light = λ x l. omega (arith, run' x l, a.own.fit.light x l);
        early = λ x l. p.release.low x (omega (arith, column_long 1 rows, own.sized));
        late = λ x l. p.ahead.low x (omega (arith, column_long 2 rows, own.sized));
      }

-- what at most so many rounds leave: the times, where no job lies on a cycle, and nothing was left to change or there were as many rounds as jobs
pub record Adjusts (u : Tasks) (links rows rows' : List (List ℕ)) (most : ℕ) (r : Bool) : Type 0 where
  pub sized : length rows' ≡ jobs u
  pub still : r ≡ true → Free (graph_of (starts links) (ends links) (jobs u)) → TimesIn u links rows'
  pub enough : most ≡ jobs u → Free (graph_of (starts links) (ends links) (jobs u)) → TimesIn u links rows'

pub adjusts : (u : Tasks) (h : ℕ) (links rows₀ rows rows' : List (List ℕ)) (most : ℕ) (r : Bool) → RoundsAsked u h links rows₀ → OwnRows u rows
    → (r ≡ true → Rounds links rows rows' (length rows)) × (r ≡ false → Rounds links rows rows' most) → Adjusts u links rows₀ rows' most r
adjusts u h links rows₀ rows rows' most true a own p =
    record {
      sized = (p.0 refl).long ∙ own.sized;
      still = λ e free. times_are u h links rows₀ rows a own rows' (p.0 refl) free;
      enough = λ e free. times_are u h links rows₀ rows a own rows' (p.0 refl) free;
    }
adjusts u h links rows₀ rows rows' most false a own p =
    record {
      sized = (p.1 refl).long ∙ own.sized;
      still = λ e free. clash e refl;
      enough = λ e free. times_are u h links rows₀ rows a own rows' (let g : most ≡ length rows = e ∙ sym own.sized in rw g at (p.1 refl)) free;
    }

-- whether few rounds did
pub record Quick (u : Tasks) (links rows rows' : List (List ℕ)) (r : Bool) : Type 0 where
  pub sized : length rows' ≡ jobs u
  pub done : r ≡ true → (jobs u ≡ lowest (graph_of (starts links) (ends links) (jobs u))) × TimesIn u links rows'

pub not_quick : (u : Tasks) (links rows rows' : List (List ℕ)) (most : ℕ) (r : Bool) → Adjusts u links rows rows' most r → Quick u links rows rows' false
not_quick u links rows rows' most r p = record { sized = p.sized; done = λ e. clash e refl }

pub falls_asked : (u : Tasks) (h : ℕ) (links rows rows' : List (List ℕ)) (most : ℕ) (r : Bool) → RoundsAsked u h links rows
    → Adjusts u links rows rows' most r → Between (starts links) (ends links) (length rows')
falls_asked u h links rows rows' most r a p = let e = p.sized in rw e a.between

pub is_quick : (u : Tasks) (h : ℕ) (links rows rows' : List (List ℕ)) (most : ℕ) (r q : Bool) → RoundsAsked u h links rows
    → Adjusts u links rows rows' most r → r ≡ true
    → (q ≡ true → Falling (starts links) (ends links) (row.aheads rows') (length (starts links))) → Quick u links rows rows' q
is_quick u h links rows rows' most r q a p still falls =
    record {
      sized = p.sized;
      done = λ e. (
        fallen (starts links) (ends links) (row.aheads rows') (jobs u) a.between (falls e),
        p.still still (fallen_free (starts links) (ends links) (row.aheads rows') (jobs u) a.between (falls e)),
      );
    }

-- ---- the lowest job on a cycle, and the times where there is none
pub record SolveAsked (u : Tasks) (h : ℕ) (links : List (List ℕ)) (next : List ℕ) (rows : List (List ℕ)) : Type 0 where
  pub rounds : RoundsAsked u h links rows
  pub long : length next ≡ length links
  pub few_links : length links ≤ 4096

pub record Solved (u : Tasks) (links rows : List (List ℕ)) (r : Option ℕ) : Type 0 where
  pub sized : length rows ≡ jobs u
  pub answer : r ≡ least.lowest (loops (graph_of (starts links) (ends links) (jobs u))) (jobs u)
  pub times : r ≡ None → TimesIn u links rows

module _ (u : Tasks) (h : ℕ) (links : List (List ℕ)) (next : List ℕ) (rows rows' : List (List ℕ)) (r : Bool) (a : SolveAsked u h links next rows)
    (q : Quick u links rows rows' r) where
  pub solved_soon : r ≡ true → Solved u links rows' None
  unfolding lowest
  solved_soon e =
      let g : Graph = graph_of (starts links) (ends links) (jobs u) in
      record { sized = q.sized; answer = lowest_none (loops g) (jobs u) (jobs u) (q.done e).0 (omega arith); times = λ l. (q.done e).1 }

  search_asked : SearchAsked links next rows'
  search_asked =
      let e = q.sized in
      record { between = rw e a.rounds.between; long = a.long; few_links = a.few_links; few_jobs = omega (arith, a.rounds.own.fit.few_jobs) }

  module _ (rows'' : List (List ℕ)) (sized : length rows'' ≡ length rows') where
    lowest_is : {x : Option ℕ} → x ≡ lowest_in links (length next) (length rows') → x ≡ job_in (graph_of (starts links) (ends links) (jobs u))
    lowest_is ex = ex ∙ lowest_of links next rows' search_asked ∙ ap (λ (n : ℕ). job_in (graph_of (starts links) (ends links) n)) q.sized

    pub solved_cycle : {x : ℕ} → Some x ≡ lowest_in links (length next) (length rows') → Solved u links rows'' (Some x)
    unfolding job_in
    solved_cycle {x} ex =
        record { sized = sized ∙ q.sized; answer = lowest_is ex; times = λ m. absurd (let z : ◌≡◌ {A = ℕ} 0 1 = cc m in omega arith) }

    pub rounds_asked : RoundsAsked u h links rows''
    rounds_asked = record { own = record { fit = a.rounds.own.fit; sized = sized ∙ q.sized }; between = a.rounds.between }

    pub solved_late : None ≡ lowest_in links (length next) (length rows') → (rows''' : List (List ℕ)) (b : Bool)
        → Adjusts u links rows'' rows''' (length rows'') b → Solved u links rows''' None
    unfolding job_in
    solved_late ex rows''' b p =
        let n : length rows'' ≡ jobs u = sized ∙ q.sized in
        let g : Graph = graph_of (starts links) (ends links) (jobs u) in
        let w = none_least (loops g) (jobs u) (lowest_is ex) in
        record { sized = p.sized; answer = lowest_is ex; times = λ m. p.enough n (some_not (loops g) (jobs u) w.1) }

-- ---- 15
-- job x is tight, in natural numbers
unfoldable pub over : List (List ℕ) → ℕ → Bool
over rows x = ltb top (at (row.releases rows) x + at (row.runs rows) x + at (row.aheads rows) x)

pub over_is : (rows : List (List ℕ)) (x : ℕ)
    → ltb top (get_or (get_or rows x []) 1 0 + get_or (get_or rows x []) 0 0 + get_or (get_or rows x []) 2 0) ≡ over rows x
unfolding over
over_is rows x = rw (column_at 0 rows x, column_at 1 rows x, column_at 2 rows x)

-- numbers that can be added and written
pub record LowRows (rows : List (List ℕ)) : Type 0 where
  pub light : (x : ℕ) → x < length rows → get_or (get_or rows x []) 0 0 ≤ 6000
  pub early : (x : ℕ) → x < length rows → get_or (get_or rows x []) 1 0 ≤ limit
  pub late : (x : ℕ) → x < length rows → get_or (get_or rows x []) 2 0 ≤ limit

pub low_rows : (u : Tasks) (links rows : List (List ℕ)) → TimesIn u links rows → LowRows rows
low_rows u links rows p =
    record {
      light = λ x l. omega (arith, column_at 0 rows x, p.light x (omega (arith, p.sized)));
      early = λ x l. omega (arith, column_at 1 rows x, p.early x (omega (arith, p.sized)));
      late = λ x l. omega (arith, column_at 2 rows x, p.late x (omega (arith, p.sized)));
    }

-- ---- what is written
abbrev pub signed_release : List (List ℕ) → ℕ → ℤ
signed_release rows x = pos (get_or (get_or rows x []) 1 0)

abbrev pub signed_due : List (List ℕ) → ℕ → ℤ
signed_due rows x = sub_ℕ top (get_or (get_or rows x []) 2 0)

pub record WriteAsked (rows : List (List ℕ)) (p q : ℕ) : Type 0 where
  pub low : LowRows rows
  pub first : p ≡ length rows
  pub second : q ≡ length rows

pub table_same : (f g : ℕ → ℤ) (n : ℕ) → ((x : ℕ) → x < n → f x ≡ g x) → table f n ≡ table g n
table_same f g n h = is_table g n (pos 0) (table f n) (length_table f n) (λ x l. get_or_table f n x (pos 0) l ∙ h x l)

-- the same, where p and q places are as many as there are rows
abbrev pub sizes_fit : ℕ → ℕ → ℕ → Bool
sizes_fit n p q = eqb p n && eqb q n

pub record Put (rows : List (List ℕ)) (a b a' b' : List ℤ) : Type 0 where
  pub releases : a' ≡ pick (sizes_fit (length rows) (length a) (length b)) (table (signed_release rows) (length rows)) a
  pub deadlines : b' ≡ pick (sizes_fit (length rows) (length a) (length b)) (table (signed_due rows) (length rows)) b

module _ (rows : List (List ℕ)) (low : LowRows rows) (a b : List ℤ) where
  pub put_not_first : (length a ≡ length rows → ⊥) → Put rows a b a b
  put_not_first h = let e = ne_eqb (length a) (length rows) h in record { releases = rw e; deadlines = rw e }

  module _ (ea : length a ≡ length rows) where
    pub put_not_second : (length b ≡ length rows → ⊥) → Put rows a b a b
    put_not_second h =
        let e = eq-eqb (length a) (length rows) ea in
        let f = ne_eqb (length b) (length rows) h in
        record { releases = rw (e, f); deadlines = rw (e, f) }

    module _ (eb : length b ≡ length rows) where
      pub put_asked : WriteAsked rows (length a) (length b)
      put_asked = record { low = low; first = ea; second = eb }

      pub put_both : (a' b' : List ℤ) → (a' ≡ table (signed_release rows) (length rows)) × (b' ≡ table (signed_due rows) (length rows)) → Put rows a b a' b'
      put_both a' b' h =
          let e = eq-eqb (length a) (length rows) ea in
          let f = eq-eqb (length b) (length rows) eb in
          record { releases = h.0 ∙ rw (e, f); deadlines = h.1 ∙ rw (e, f) }

-- ---- the job to name, and what is written where no job lies on a cycle
-- the lowest job on a cycle of links, as many as there are jobs where there is none
abbrev pub lowest_job : Tasks → List (List ℕ) → ℕ
lowest_job u links = lowest (graph_of (starts links) (ends links) (jobs u))

pub record Worked (u : Tasks) (links rows : List (List ℕ)) (r : Option Trouble) (a b a' b' : List ℤ) : Type 0 where
  pub cyclic : lowest_job u links < jobs u → (r ≡ Some (trouble.Cycle (job_at u (lowest_job u links)))) × (a' ≡ a) × (b' ≡ b)
  pub free : jobs u ≤ lowest_job u links
      → (r ≡ tight_by u (length rows) (least (over rows) (length rows))) × Put rows a b a' b' × TimesIn u links rows

module _ (u : Tasks) (links rows : List (List ℕ)) where
  abbrev g : Graph
  g = graph_of (starts links) (ends links) (jobs u)

  -- x is the lowest on a cycle
  module _ (x : ℕ) (s : Solved u links rows (Some x)) where
    pub lowest_is_low : (x ≡ least (loops g) (jobs u)) × (x < jobs u) × (loops g x ≡ true)
    lowest_is_low = some_least (loops g) (jobs u) x s.answer

    pub worked_cycle : {j : Job} → j ≡ job_at u x → (a b : List ℤ) → Worked u links rows (Some (trouble.Cycle j)) a b a b
    unfolding lowest
    worked_cycle e a b =
        let is = lowest_is_low in
        record {
          cyclic = λ m. (ap (λ (z : Job). Some (trouble.Cycle z)) (e ∙ ap (job_at u) is.0), refl, refl);
          free = λ m. absurd (omega (arith, is.0, is.1));
        }

  -- none is
  module _ (s : Solved u links rows None) where
    free_of : jobs u ≤ lowest g
    unfolding lowest
    free_of = omega (arith, (none_least (loops g) (jobs u) s.answer).0)

    pub solved_low : LowRows rows
    solved_low = low_rows u links rows (s.times refl)

    module _ (a b a' b' : List ℤ) (p : Put rows a b a' b') where
      pub worked : {r : Option Trouble} → r ≡ tight_by u (length rows) (least (over rows) (length rows)) → Worked u links rows r a b a' b'
      worked e =
          record { cyclic = λ m. absurd (omega (arith, free_of)); free = λ m. (e, p, s.times refl) }

      pub worked_none : None ≡ least.lowest (over rows) (length rows) → Worked u links rows None a b a' b'
      worked_none e = worked (rw (none_least (over rows) (length rows) e).1)

      module _ (y : ℕ) (e : Some y ≡ least.lowest (over rows) (length rows)) where
        pub first_over_is : (y ≡ least (over rows) (length rows)) × (y < length rows) × (over rows y ≡ true)
        first_over_is = some_least (over rows) (length rows) y e

        pub worked_tight : {j : Job} → j ≡ job_at u y → Worked u links rows (Some (trouble.Tight j)) a b a' b'
        worked_tight ej = worked (rw (ej, ← first_over_is.0, lt-ltb _ _ first_over_is.1))

-- ---- a job's task and place can be asked for
module _ (u : Tasks) (h : ℕ) (links : List (List ℕ)) (next : List ℕ) (rows₀ rows : List (List ℕ)) (q : SolveAsked u h links next rows₀) where
  asked : (x : ℕ) → x ≤ jobs u → JobAsked u h x
  asked x l =
      let f = q.rounds.own.fit in
      record { few = f.few; some = f.some; ticks = f.ticks; low = omega (arith, f.few_jobs) }

  pub cycle_asked : (x : ℕ) → Solved u links rows (Some x) → JobAsked u h x
  cycle_asked x s = asked x (omega (arith, (lowest_is_low u links rows x s).1))

  pub tight_asked : Solved u links rows None → (y : ℕ) → Some y ≡ least.lowest (over rows) (length rows) → JobAsked u h y
  tight_asked s y e = asked y (omega (arith, (some_least (over rows) (length rows) y e).1, s.sized))
