-- The table of jobs, once every slot is noted, tells what each job gets.
use mathlib.Core.Path.{◌≡◌, refl, sym, ap, ◌∙◌, subst}
use mathlib.Core.Bool.{Bool, true, false, ◌&&◌}
use mathlib.Core.List.{List}
use mathlib.Core.Logic.{◌⊎◌, inl, inr}
use Prim.Native.Nat.{ℕ, zero, suc, ◌+◌, ◌-◌, ◌*◌, ◌/◌, ◌%◌, ◌<◌, ◌≤◌}
use native.Mathlib.Nat.{add-mul-mod_self_right, mod-eq_of_lt, mod-lt, div-add-mod', div-mul_cancel, div-lt_iff_lt-mul, le-div_iff_mul-le, le_of_dvd}
use native.Mathlib.Omega.{arith}
use lib.Arith.{digits_lt}
use lib.Dec.{eqb, leb, ltb}
use lib.ListN.{get_or}
use borrow.Author.Tests.{eq-eqb, ne_eqb, eqb-true, ltb-true, ltb-false, lt-ltb, le-leb, lt-leb}
use Rattle.vocabulary.specs.Test.{bit, pick}
use Rattle.vocabulary.proofs.Test.{clash, both, same_test, lt_or_le, and_false, and_true}
use Rattle.vocabulary.specs.Least.{least, some}
use Rattle.vocabulary.proofs.Least.{some_yes, some_at}
use Rattle.vocabulary.specs.Count.{count}
use Rattle.vocabulary.proofs.Count.{count_same, count_none}
use Rattle.vocabulary.proofs.Rows.{row_div, count_once, count_rows}
use Rattle.vocabulary.specs.Tally.{count_at, first_at, last_at}
use Rattle.kinds.specs.Tasks.{Tasks, task_at, period, offset, deadline}
use Rattle.kinds.specs.Cycle.{jobs_of, jobs_before, jobs}
use Rattle.kinds.specs.Jobs.{release, number_of_job, task_of_job}
use Rattle.kinds.specs.Plans.{Plan, slot, shows, shown, runs, ticks}
use Rattle.kinds.specs.Valid.{TickOf}
use Rattle.laws.proofs.Repeat.{runs_awake}
use Rattle.laws.proofs.Order.{task_of_number, number_low}
use Rattle.laws.specs.Window.{falls}
use Rattle.laws.proofs.Window.{tick_at_lem, tick_is, falls_is, is_falling, window_count}
use Rattle.laws.specs.Window.{time_of}
use Rattle.laws.proofs.Window.{time_awake, time_asleep, time_from, shown_time, time_mod, turned}
use Rattle.judge.specs.Rules.{twin, mated, clashes, strays}
use Rattle.judge.specs.JobTable.{EachJobGets}
use Rattle.judge.specs.JobOfSlot.{Fit, job_key, key_of, key, time, outside, Fine, Walked}

module _ (u : Tasks) (p : Plan) (f : Fit u p) where
  offset_within : (i : ℕ) → i < u.count → offset u i ≤ p.cycle
  offset_within i l = omega (arith, f.offset_low i l, le_of_dvd f.some_cycle (f.divides i l))

  pub jobs_are : (i : ℕ) → jobs_of u i ≡ p.cycle / period u i
  unfolding jobs_of
  jobs_are i = ap (λ (h : ℕ). h / period u i) (sym f.ticks)

  -- The job in force is a job of the cycle.
  pub job_low : (i c : ℕ) → i < u.count → c < p.cycle → (time_of p.cycle (offset u i) c - offset u i) / period u i < jobs_of u i
  job_low i c l k =
      let w = time_from p.cycle (offset u i) c (offset_within i l) k in
      rw (jobs_are i)
      ((div-lt_iff_lt-mul (f.some_period i l)).1 (rw (div-mul_cancel (period u i) (f.divides i l)) (omega (arith, w.0, w.1))))

  -- A job's number tells its task, and is in the tables.
  one_task_lem : (i j k l : ℕ) → i < u.count → j < u.count → k < jobs_of u i → l < jobs_of u j
      → jobs_before u i + k ≡ jobs_before u j + l → i ≡ j
  unfolding number_of_job
  one_task_lem i j k l li lj lk ll e = sym (task_of_number u i k li lk) ∙ ap (task_of_job u) e ∙ task_of_number u j l lj ll

  pub number_fits : (i k : ℕ) → i < u.count → k < jobs_of u i → jobs_before u i + k < jobs u
  unfolding number_of_job
  number_fits i k li lk = number_low u i k li lk

  within : ℕ → ℕ → ℕ → Bool
  within i k c = falls (period u i) (deadline u i) k (time_of p.cycle (offset u i) c - offset u i)

  key_is : (v c i k : ℕ) → v ≤ u.count → c < p.cycle → i < u.count → k < jobs_of u i → key_of u p v c ≡ jobs_before u i + k
      → (v ≡ i + 1) × (within i k c ≡ true)
  unfolding key_of job_key within
  key_is zero c i k lv lc li lk e = absurd (omega (arith, number_fits i k li lk, f.few_jobs))
  key_is (suc j) c i k lv lc li lk e = go (ltb (r % period u j) (deadline u j)) refl e
    where
      r : ℕ
      r = time_of p.cycle (offset u j) c - offset u j

      lj : j < u.count
      lj = omega arith

      go : (b : Bool) → ltb (r % period u j) (deadline u j) ≡ b → pick b (jobs_before u j + r / period u j) 2048 ≡ jobs_before u i + k
          → (suc j ≡ i + 1) × (falls (period u i) (deadline u i) k (time_of p.cycle (offset u i) c - offset u i) ≡ true)
      go false q g = absurd (omega (arith, number_fits i k li lk, f.few_jobs))
      go true q g =
          let z : j ≡ i = one_task_lem j i (r / period u j) k lj li (job_low j c lj lc) lk g in
          let y : r / period u j ≡ k = omega (arith, ap (jobs_before u) z) in (
            omega arith,
            subst (λ (x : ℕ). falls (period u x) (deadline u x) k (time_of p.cycle (offset u x) c - offset u x) ≡ true) z
                (rw (eq-eqb (r / period u j) k y, q)),
          )

  is_key : (v c i k : ℕ) → v ≡ i + 1 → within i k c ≡ true → key_of u p v c ≡ jobs_before u i + k
  unfolding key_of job_key within
  is_key v c i k e w =
      let r : ℕ = time_of p.cycle (offset u i) c - offset u i in
      let z : (eqb (r / period u i) k ≡ true) × (ltb (r % period u i) (deadline u i) ≡ true) = both w in
      ap (λ (x : ℕ). key_of u p x c) (let g : v ≡ suc i = omega arith in g)
      ∙ rw z.1 (ap (λ (x : ℕ). jobs_before u i + x) (eqb-true _ _ z.0))

  -- A slot by its place.
  pub place : (c q : ℕ) → c < p.cycle → slot p c q ≡ get_or p.slots (c * p.processors + q) 0
  unfolding slot
  place c q l = rw (mod-eq_of_lt l)

  pub tick_low : (e : ℕ) → e < p.cycle * p.processors → e / p.processors < p.cycle
  tick_low e l = (div-lt_iff_lt-mul f.some_processors).1 l

  pub slot_at : (e : ℕ) → e < p.cycle * p.processors → slot p (e / p.processors) (e % p.processors) ≡ get_or p.slots e 0
  unfolding slot
  slot_at e l = rw (mod-eq_of_lt (tick_low e l), div-add-mod' e p.processors)

  by_row : (i k c q : ℕ) → i < u.count → k < jobs_of u i → c < p.cycle → q < p.processors
      → eqb (key u p (c * p.processors + q)) (jobs_before u i + k) ≡ (shows p i c q && within i k c)
  unfolding key shows
  by_row i k c q li lk lc lq =
      same_test
      (λ e.
      let w =
      key_is v c i k (f.low_slots (c * p.processors + q)) lc li lk (sym (ap (key_of u p v) (row_div c p.processors q lq)) ∙ eqb-true _ _ e)
      in
      rw (place c q lc, eq-eqb v (i + 1) w.0, w.1))
      (λ e.
      let w = both {a = eqb (slot p c q) (i + 1)} e in
      eq-eqb _ _
      (ap (key_of u p v) (row_div c p.processors q lq) ∙ is_key v c i k (sym (place c q lc) ∙ eqb-true _ _ w.0) w.1))
    where
      v : ℕ
      v = get_or p.slots (c * p.processors + q) 0

  module _ (clean : (c : ℕ) → c < p.cycle → clashes p c ≡ false) where
    alone : (i c : ℕ) → c < p.cycle → (q r : ℕ) → q < r → r < p.processors
        → shows p i c q ≡ true → shows p i c r ≡ true → ⊥
    unfolding shows clashes mated twin
    alone i c lc q r l k a b =
        let x : slot p c q ≡ i + 1 = eqb-true _ _ a in
        let y : slot p c r ≡ i + 1 = eqb-true _ _ b in
        clash
        (some_yes (mated p c) p.processors q (omega arith)
        (some_yes (twin p c q) p.processors r k
        (rw (lt-ltb q r l, ne_eqb (slot p c q) 0 (λ z. omega arith), eq-eqb (slot p c r) (slot p c q) (y ∙ sym x)))))
        (clean c lc)

    row : (i k c : ℕ) → i < u.count → k < jobs_of u i → c < p.cycle → (b : Bool) → within i k c ≡ b
        → count (λ q. eqb (key u p (c * p.processors + q)) (jobs_before u i + k)) 0 p.processors ≡ bit (shown p i c && b)
    unfolding shown
    row i k c li lk lc true e =
        count_same (λ q. eqb (key u p (c * p.processors + q)) (jobs_before u i + k)) (shows p i c) 0 0 p.processors
        (λ q l. by_row i k c (0 + q) li lk lc (omega arith) ∙ ap (λ (b : Bool). shows p i c (0 + q) && b) e ∙ and_true (shows p i c (0 + q)))
        ∙ count_once (shows p i c) p.processors (alone i c lc)
        ∙ ap bit (sym (and_true (some (shows p i c) p.processors)))
    row i k c li lk lc false e =
        count_none (λ q. eqb (key u p (c * p.processors + q)) (jobs_before u i + k)) 0 p.processors
        (λ q l. by_row i k c (0 + q) li lk lc (omega arith) ∙ ap (λ (b : Bool). shows p i c (0 + q) && b) e ∙ and_false (shows p i c (0 + q)))
        ∙ ap bit (sym (and_false (some (shows p i c) p.processors)))

    -- A job's period lies in the cycle that begins at the first release.
    room : (i k : ℕ) → i < u.count → k < jobs_of u i → k * period u i + period u i ≤ p.cycle
    room i k li lk = omega (arith, (le-div_iff_mul-le {x = k + 1} {y = p.cycle} (f.some_period i li)).0 (omega (arith, jobs_are i)))

    -- Counting slots by job is counting the ticks of the job's window.
    number : (i k : ℕ) → i < u.count → k < jobs_of u i
        → count (λ e. eqb (key u p e) (jobs_before u i + k)) 0 (p.cycle * p.processors) ≡ ticks u p i k
    unfolding within ticks release
    number i k li lk =
        count_rows (λ e. eqb (key u p e) (jobs_before u i + k)) (λ c. shown p i c && within i k c) p.processors p.cycle
        (λ c lc. row i k c li lk lc (within i k c) refl)
        ∙ turned (λ c. shown p i c && within i k c) (λ x. shown p i x && falls (period u i) (deadline u i) k (x - offset u i))
        p.cycle (offset u i) (offset_within i li)
        (λ c lc. ap (λ (b : Bool). b && within i k c) (sym (shown_time p i (offset u i) c)))
        ∙ window_count (shown p i) (offset u i) (period u i) (deadline u i) k p.cycle (f.some_period i li) (f.deadline_low i li) (room i k li lk)
        ∙ count_same (shown p i) (runs u p i) (offset u i + k * period u i) (offset u i + k * period u i) (deadline u i)
        (λ x l. sym (runs_awake u p i (offset u i + k * period u i + x) (omega arith)))

  -- A noted slot is a tick of its job.
  pub fine : (e : ℕ) → e < p.cycle * p.processors → Fine u p (key u p e) (time u p e)
  unfolding Fine key time shown shows slot within number_of_job release
  fine e le i k li lk q =
      let c : ℕ = e / p.processors in
      let lc : c < p.cycle = tick_low e le in
      let v : ℕ = get_or p.slots e 0 in
      let w = key_is v c i k (f.low_slots e) lc li lk q in
      let n : v - 1 ≡ i = omega (arith, w.0) in
      let x : ℕ = time_of p.cycle (offset u i) c in
      let a = time_from p.cycle (offset u i) c (offset_within i li) lc in
      let b = falls_is (period u i) (deadline u i) k (x - offset u i) (f.some_period i li) (f.deadline_low i li) w.1 in
      let r : TickOf u p i k x =
      tick_at_lem u p i k x (omega (arith, a.0, b.0)) (omega (arith, a.0, b.1))
      (shown_time p i (offset u i) c
      ∙ some_yes (shows p i c) p.processors (e % p.processors) (mod-lt e f.some_processors)
      (rw (mod-eq_of_lt lc, div-add-mod' e p.processors) (eq-eqb v (i + 1) w.0))) in
      subst (λ (y : ℕ). TickOf u p i k (time_of p.cycle (offset u y) c)) (sym n) r

  -- A tick of a job is a slot with its number and time.
  module _ (i k x : ℕ) (li : i < u.count) (lk : k < jobs_of u i) (t : TickOf u p i k x) where
    w : (offset u i + k * period u i ≤ x) × (x < offset u i + k * period u i + deadline u i) × (shown p i x ≡ true)
    unfolding release
    w = tick_is u p i k x t

    at : ℕ
    at = x % p.cycle * p.processors + least (shows p i x) p.processors

    at_low : (least (shows p i x) p.processors < p.processors) × (get_or p.slots at 0 ≡ i + 1)
    unfolding shown shows slot at
    at_low = let z = some_at (shows p i x) p.processors w.2 in (z.0, eqb-true _ _ z.1)

    low : x < offset u i + p.cycle
    low = omega (arith, w.1, f.deadline_low i li, (le-div_iff_mul-le {x = k + 1} {y = p.cycle} (f.some_period i li)).0 (omega (arith, jobs_are i)))

    start : offset u i ≤ x
    start = omega (arith, w.0)

    at_time : time u p at ≡ x
    unfolding time at
    at_time =
        rw (at_low.1, row_div (x % p.cycle) p.processors (least (shows p i x) p.processors) at_low.0)
        (ap (λ (y : ℕ). time_of p.cycle (offset u y) (x % p.cycle)) (let g : i + 1 - 1 ≡ i = omega arith in g)
        ∙ time_mod p.cycle (offset u i) x f.some_cycle (offset_within i li) start low)

    at_key : key u p at ≡ jobs_before u i + k
    unfolding key within at
    at_key =
        ap (key_of u p (get_or p.slots at 0)) (row_div (x % p.cycle) p.processors (least (shows p i x) p.processors) at_low.0)
        ∙ is_key (get_or p.slots at 0) (x % p.cycle) i k at_low.1
        (rw (time_mod p.cycle (offset u i) x f.some_cycle (offset_within i li) start low)
        (ap (falls (period u i) (deadline u i) k) (let g : x - offset u i ≡ k * period u i + (x - offset u i - k * period u i) = omega (arith, w.0) in g)
        ∙ is_falling (period u i) (deadline u i) k (x - offset u i - k * period u i) (f.some_period i li) (f.deadline_low i li) (omega (arith, w.0, w.1))))

    at_room : at < p.cycle * p.processors
    unfolding at
    at_room = digits_lt (mod-lt x f.some_cycle) at_low.0

  pub each_job_gets : ((c : ℕ) → c < p.cycle → clashes p c ≡ false) → (rows : List (List ℕ)) → Walked u p (p.cycle * p.processors) rows
      → EachJobGets u p rows
  unfolding Fine number_of_job
  each_job_gets clean rows t =
      record {
        long = t.noted.long;
        each =
            λ i k li lk.
            let n : ℕ = jobs_before u i + k in
            let l : n < jobs u = number_fits i k li lk in
            let e : count_at rows n ≡ ticks u p i k = t.noted.number n l ∙ number clean i k li lk in
            record {
              some =
                  λ h.
                  record {
                    number = e;
                    bounds =
                        λ x w. subst (λ (y : ℕ). (first_at rows n ≤ y) × (y ≤ last_at rows n)) (at_time i k x li lk w)
                        (t.noted.bounds n (at i k x li lk w) l (at_room i k x li lk w) (at_key i k x li lk w));
                    first = λ c. t.noted.first n l h i k li lk refl;
                    last = λ c. t.noted.last n l h i k li lk refl;
                    none = λ z. absurd (omega arith);
                  };
              none = λ z. sym e ∙ z;
            };
      }

  -- ---- what the code finds
  pub key_task : (v c : ℕ) → (v ≡ 0 → ⊥) → job_key p.cycle (task_at u.attributes (v - 1)) (jobs_before u (v - 1)) c ≡ key_of u p v c
  unfolding key_of
  key_task zero c z = absurd (z refl)
  key_task (suc i) c z =
      ap (λ (x : ℕ). job_key p.cycle (task_at u.attributes x) (jobs_before u x) c) (let g : suc i - 1 ≡ i = omega arith in g)

  -- The definition of rule 21 adds a cycle to every tick, the code only where the task sleeps.
  since : (i c : ℕ) → i < u.count → c < p.cycle
      → (c + p.cycle - offset u i) % period u i ≡ (time_of p.cycle (offset u i) c - offset u i) % period u i
  since i c li lc = go (lt_or_le c (offset u i))
    where
      go : (c < offset u i) ⊎ (offset u i ≤ c)
          → (c + p.cycle - offset u i) % period u i ≡ (time_of p.cycle (offset u i) c - offset u i) % period u i
      go (inl l) = rw (time_asleep p.cycle (offset u i) c l)
      go (inr l) =
          let n : ℕ = p.cycle / period u i in
          let g : c + p.cycle - offset u i ≡ c - offset u i + n * period u i = omega (arith, div-mul_cancel (period u i) (f.divides i li)) in
          rw (time_awake p.cycle (offset u i) c l) (ap (λ (x : ℕ). x % period u i) g ∙ add-mul-mod_self_right (c - offset u i) n (period u i))

  -- The number that the code finds tells whether rule 21 is broken.
  judged : (i c : ℕ) → i < u.count → c < p.cycle
      → (b : Bool) → ltb ((time_of p.cycle (offset u i) c - offset u i) % period u i) (deadline u i) ≡ b
      → (k : ℕ) → k ≡ pick b (jobs_before u i + (time_of p.cycle (offset u i) c - offset u i) / period u i) 2048
      → leb (deadline u i) ((c + p.cycle - offset u i) % period u i) ≡ leb (jobs u) k
  judged i c li lc true e k q =
      lt-leb (deadline u i) _ (rw (since i c li lc) (ltb-true _ _ e))
      ∙ sym (lt-leb (jobs u) k (rw q (number_fits i ((time_of p.cycle (offset u i) c - offset u i) / period u i) li (job_low i c li lc))))
  judged i c li lc false e k q =
      le-leb (deadline u i) _ (rw (since i c li lc) (ltb-false _ _ e)) ∙ sym (le-leb (jobs u) k (omega (arith, f.few_jobs)))

  pub outside_is : (e k : ℕ) → e < p.cycle * p.processors → (get_or p.slots e 0 ≡ 0 → ⊥) → k ≡ key u p e → outside u p e ≡ leb (jobs u) k
  unfolding outside strays key job_key
  outside_is e k le z ek =
      let c : ℕ = e / p.processors in
      let i : ℕ = get_or p.slots e 0 - 1 in
      rw (slot_at e le, ne_eqb (get_or p.slots e 0) 0 z)
      (judged i c (omega (arith, f.low_slots e, z)) (tick_low e le)
      (ltb ((time_of p.cycle (offset u i) c - offset u i) % period u i) (deadline u i)) refl k
      (ek ∙ sym (key_task (get_or p.slots e 0) c z)))

  pub idle_is : (e : ℕ) → e < p.cycle * p.processors → get_or p.slots e 0 ≡ 0 → (outside u p e ≡ false) × (jobs u ≤ key u p e)
  unfolding outside strays key key_of
  idle_is e le z = (rw (slot_at e le, z), rw z (omega (arith, f.few_jobs)))
