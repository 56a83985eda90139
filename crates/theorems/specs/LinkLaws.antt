-- The links of one cycle speak for all.
use Rattle.std.specs.Prelude.{◌≡◌, ◌&&◌, ◌↔◌, List, ℕ, ◌+◌, ◌*◌, ◌/◌, ◌%◌, ◌<◌}
use Rattle.std.proofs.Common.{sym, ap₂, ◌∙◌, arith}
use Rattle.vocabulary.proofs.Least.{some_same}
use Rattle.kinds.specs.Tasks.{Tasks, Set, deadline, from_task, to_task}
use Rattle.kinds.specs.Jobs.{release}
use Rattle.kinds.specs.Links.{link_from, link_to, repeats}
use Rattle.kinds.specs.Plans.{Plan, plan_of}
use Rattle.kinds.specs.Valid.{LinkKept}
use Rattle.kinds.proofs.SoundFacts.{Sound}
use Rattle.judge.specs.Rules.{against, bars, broken, breaks}
use Rattle.judge.proofs.Broken.{kept_iff}
use Rattle.laws.proofs.Repeat.{runs_shift}
use Rattle.laws.proofs.Windows.{leb_shift}
use Rattle.laws.proofs.Links.{from_again, to_again}

-- ---- one cycle's links speak for all
-- jobs that are put off alike
broken_shift : (u : Tasks) (p : Plan) (i k k' j l l' c : ℕ) → release u i k ≡ release u i k' + c * p.cycle
    → release u j l ≡ release u j l' + c * p.cycle → broken u p i k j l ≡ broken u p i k' j l'
unfolding broken bars against
broken_shift u p i k k' j l l' c e f =
    some_same (bars u p i k j l) (bars u p i k' j l') (deadline u i)
    (λ x lx.
    ap₂ ◌&&◌ (runs_shift u p i k k' c x e)
    (some_same (against u p j l (release u i k + x)) (against u p j l' (release u i k' + x)) (deadline u j)
    (λ y ly.
    ap₂ ◌&&◌ (runs_shift u p j l l' c y f)
    (leb_shift (release u j l + y) (release u i k + x) (release u j l' + y) (release u i k' + x) (c * p.cycle) (omega arith) (omega arith)))))

pub breaks_again : (s : Set) → Sound s → (slots : List ℕ) (k q n : ℕ) → k < s.patterns.count
    → breaks s.tasks s.patterns (plan_of s slots) k q n ≡ breaks s.tasks s.patterns (plan_of s slots) k q (n % repeats s.tasks s.patterns k)
unfolding breaks
breaks_again s f slots k q n lk =
    let u = s.tasks in
    let v = s.patterns in
    let r : ℕ = n % repeats u v k in
    broken_shift u (plan_of s slots) (from_task v k) (link_from u v k q n) (link_from u v k q r) (to_task v k) (link_to u v k q n) (link_to u v k q r)
    (n / repeats u v k)
    (from_again s f k lk q n) (to_again s f k lk q n)

pub kept_again : (s : Set) → Sound s → (slots : List ℕ) (k q n : ℕ) → k < s.patterns.count
    → (let u = s.tasks in let v = s.patterns in let r : ℕ = n % repeats u v k in LinkKept u (plan_of s slots) (from_task v k) (link_from u v k q n)
    (to_task v k) (link_to u v k q n) ↔ LinkKept u (plan_of s slots) (from_task v k) (link_from u v k q r) (to_task v k) (link_to u v k q r))
unfolding breaks
kept_again s f slots k q n lk =
    let u = s.tasks in
    let v = s.patterns in
    let r : ℕ = n % repeats u v k in
    let a = kept_iff u (plan_of s slots) (from_task v k) (link_from u v k q n) (to_task v k) (link_to u v k q n) in
    let b = kept_iff u (plan_of s slots) (from_task v k) (link_from u v k q r) (to_task v k) (link_to u v k q r) in
    let e = breaks_again s f slots k q n lk in
    (λ w. b.0 (sym e ∙ a.1 w), λ w. a.0 (e ∙ b.1 w))
