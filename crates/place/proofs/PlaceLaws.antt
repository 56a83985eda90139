-- What the covered functions cite: the bytes from a place on.
use mathlib.Core.Path.{◌≡◌, sym}
use Prim.Native.Nat.{ℕ, ◌-◌, ◌<◌}
use native.Mathlib.Omega.{arith}
use mathlib.Core.List.{List, []}
use lib.ListN.{length, take, drop, length-drop, drop_of_length-le}
use lib.Seq.{take_all}

pub rest_none : (s : List ℕ) (at : ℕ) → length s < at → ◌≡◌ {A = List ℕ} [] (drop at s)
rest_none s at h = sym (drop_of_length-le s {i = at} (omega arith))

pub rest_all : (s : List ℕ) (at : ℕ) → take (length s - at) (drop at s) ≡ drop at s
rest_all s at = take_all (length s - at) (drop at s) (omega (arith, length-drop at s))
