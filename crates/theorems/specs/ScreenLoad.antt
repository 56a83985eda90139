-- A plan that gives every job its ticks has room for all that the tasks ask in a cycle (14).
use Rattle.std.specs.Prelude.{◌≡◌, refl, Bool, true, false, ◌||◌, ℕ, zero, suc, ◌+◌, ◌*◌, ◌-◌, ◌/◌, ◌<◌, ◌≤◌, eqb}
use Rattle.std.proofs.Common.{sym, ap, ap₂, ◌∙◌, ⊎_elim, add-zero, add-one, arith, eqb-true}
use Rattle.std.proofs.Math.Nat.{div-mul_cancel}
use Rattle.vocabulary.specs.Test.{bit}
use Rattle.vocabulary.proofs.Test.{decide}
use Rattle.vocabulary.specs.Count.{count}
use Rattle.vocabulary.proofs.Count.{count_zero, count_more, count_same, count_split}
use Rattle.vocabulary.specs.Least.{some}
use Rattle.vocabulary.proofs.Least.{some_none, some_more}
use Rattle.vocabulary.specs.Total.{total}
use Rattle.vocabulary.proofs.Total.{total_mono, total_add, total_zero}
use Rattle.kinds.specs.Tasks.{Tasks, Set, period, running, offset, deadline}
use Rattle.kinds.specs.Cycle.{cycle, jobs_of}
use Rattle.kinds.specs.Jobs.{release}
use Rattle.kinds.specs.Plans.{Plan, slot, shows, shown, runs, ticks}
use Rattle.kinds.specs.Valid.{Exact}
use Rattle.kinds.proofs.SoundFacts.{Sound}
use Rattle.laws.proofs.Repeat.{shown_again, runs_awake}
use Rattle.network.specs.Causes.{load, room}

-- a slot shows one task at most
one_task_lem : (v n : ℕ) → (total (λ i. bit (eqb v (i + 1))) n ≤ 1) × (n < v → total (λ i. bit (eqb v (i + 1))) n ≡ 0)
unfolding total
one_task_lem v zero = (omega arith, λ l. refl)
one_task_lem v (suc n) =
    let r = one_task_lem v n in
    ⊎_elim (λ e. let q = eqb-true v (n + 1) e in (omega (arith, ap bit e, r.1 (omega arith)), λ l. absurd (omega arith)))
    (λ e. (omega (arith, ap bit e, r.0), λ l. omega (arith, ap bit e, r.1 (omega arith))))
    (decide (eqb v (n + 1)))

bit_or : (a b : Bool) → bit (a || b) ≤ bit a + bit b
bit_or true b = omega arith
bit_or false b = omega arith

-- a tick shows no more tasks than there are processors
tick_room : (p : Plan) (t n q : ℕ) → total (λ i. bit (some (shows p i t) q)) n ≤ q
unfolding shows
tick_room p t n zero =
    omega (arith, total_mono (λ i. bit (some (shows p i t) 0)) (λ i. 0) n (λ i l. omega (arith, ap bit (some_none (shows p i t)))), total_zero n)
tick_room p t n (suc q) =
    let f : ℕ → ℕ = λ i. bit (some (shows p i t) q) in
    let g : ℕ → ℕ = λ i. bit (eqb (slot p t q) (i + 1)) in
    omega (
      arith,
      total_mono (λ i. bit (some (shows p i t) (suc q))) (λ i. f i + g i) n
          (λ i l. let e = some_more (shows p i t) q in omega (arith, ap bit (rw (add-one q) at e), bit_or (some (shows p i t) q) (shows p i t q))),
      total_add f g n,
      tick_room p t n q,
      (one_task_lem (slot p t q) n).0,
    )

-- nor h ticks, m for each
cycle_room : (p : Plan) (n h : ℕ) → total (λ i. count (shown p i) 0 h) n ≤ p.processors * h
unfolding count shown
cycle_room p n zero = omega (arith, total_zero n)
cycle_room p n (suc h) =
    omega (
      arith,
      total_add (λ i. count (shown p i) 0 h) (λ i. bit (shown p i (0 + h))) n,
      cycle_room p n h,
      tick_room p (0 + h) n p.processors,
    )

-- a cycle's ticks show a task as often wherever they begin
shifted : (p : Plan) (i a : ℕ) → count (shown p i) a p.cycle ≡ count (shown p i) 0 p.cycle
shifted p i zero = refl
shifted p i (suc a) =
    let f : ℕ → Bool = shown p i in
    let h : ℕ = p.cycle in
    let e : f (a + h) ≡ f a = ap f (let g : a + h ≡ a + 1 * h = omega arith in g) ∙ shown_again p i a 1 in
    omega (
      arith,
      shifted p i a,
      count_split f a 1 h,
      count_split f a h 1,
      count_more f a 0,
      count_zero f a,
      count_more f (a + h) 0,
      count_zero f (a + h),
      ap bit e,
      ap (λ (n : ℕ). bit (f n)) (add-zero a),
      ap (λ (n : ℕ). bit (f n)) (add-zero (a + h)),
      ap (λ (n : ℕ). count f n h) (add-one a),
      ap (count f a) (let g : 1 + h ≡ h + 1 = omega arith in g),
    )

-- n jobs of a task, one a period
asked : (u : Tasks) (p : Plan) (i : ℕ) → deadline u i ≤ period u i → ((k : ℕ) → ticks u p i k ≡ running u i) → (n : ℕ)
    → running u i * n ≤ count (shown p i) (offset u i) (n * period u i)
unfolding ticks release
asked u p i short h zero = omega arith
asked u p i short h (suc n) =
    let f : ℕ → Bool = shown p i in
    let t : ℕ = period u i in
    let d : ℕ = deadline u i in
    let a : ℕ = offset u i + n * t in
    let same : count (runs u p i) a d ≡ count f a d = count_same (runs u p i) f a a d (λ y l. runs_awake u p i (a + y) (omega arith)) in
    omega (
      arith,
      asked u p i short h n,
      h n,
      same,
      count_split f a d (t - d),
      ap (count f a) (let g : d + (t - d) ≡ t = omega arith in g),
      count_split f (offset u i) (n * t) t,
      ap (count f (offset u i)) (let g : suc n * t ≡ n * t + t = omega arith in g),
    )

pub load_fits : (s : Set) → Sound s → (p : Plan) → p.processors ≡ s.processors → p.cycle ≡ cycle s.tasks → Exact s.tasks p → load s.tasks ≤ room s
unfolding load room jobs_of
load_fits s f p hm hh exact =
    let u : Tasks = s.tasks in
    omega (
      arith,
      cycle_room p u.count p.cycle,
      ap₂ ◌*◌ hm hh,
      total_mono (λ i. running u i * (cycle u / period u i)) (λ i. count (shown p i) 0 p.cycle) u.count
          (λ i l.
          omega (
            arith,
            asked u p i (f.deadline_low i l) (λ k. exact.each i k l) (cycle u / period u i),
            ap (count (shown p i) (offset u i)) (div-mul_cancel (period u i) (f.divides i l) ∙ sym hh),
            shifted p i (offset u i),
          )),
    )
