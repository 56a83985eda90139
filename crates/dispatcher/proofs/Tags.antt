-- What the last arm of a match knows: the value is none of the kinds before.
use mathlib.Core.Path.{◌≡◌, refl}
use mathlib.Core.Bool.{false}
use Rattle.judge.specs.declared.Verdict.{Verdict}
use Rattle.judge.specs.declared.Verdict.TheVariants as verdict
use Rattle.std.specs.Prelude.{Ok, Err}
use Rattle.dispatcher.specs.Answers.{Answer}
use Rattle.dispatcher.specs.Refusals.{on_verdict, if_shown, is_shown}

pub not_accepted : {A : Type 0} (v : Verdict) (a b : A) → (v ≡ verdict.Accepted → ⊥) → b ≡ on_verdict v a b
unfolding on_verdict
not_accepted verdict.Accepted a b e = absurd (e refl)
not_accepted verdict.BadSet a b e = refl
not_accepted verdict.WrongLength a b e = refl
not_accepted (verdict.BadSlot x) a b e = refl
not_accepted (verdict.Twice x y z) a b e = refl
not_accepted (verdict.Outside x y) a b e = refl
not_accepted (verdict.WrongCount x y z v w) a b e = refl
not_accepted (verdict.BrokenLink x y z) a b e = refl

pub not_shown : (a : Answer) → (a ≡ Ok tt → ⊥) → is_shown a ≡ false
unfolding if_shown
not_shown (Ok tt) e = absurd (e refl)
not_shown (Err r) e = refl
