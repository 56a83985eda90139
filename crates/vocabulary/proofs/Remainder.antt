-- What remains after a division: where a time stands after its task's last release.
use Rattle.std.specs.Prelude.{◌≡◌, ℕ, ◌+◌, ◌-◌, ◌%◌, ◌*◌, ◌<◌, ◌≤◌}
use Rattle.std.proofs.Common.{sym, ap, ◌∙◌, mod-eq_of_lt, add-zero, arith}
use Rattle.std.specs.Int.{◌∣◌}
use Rattle.std.proofs.Math.Nat.{mod-add-mod, add-mod_right, add-mod, mod-mod_of_dvd, add-mul-mod_self_right, mod-eq-zero_of_dvd, mod-mod}

mod_cancel : (T O x d : ℕ) → O ≤ T → (x + O) % T ≡ (d + O) % T → x % T ≡ d % T
mod_cancel T O x d l e = sym (back x) ∙ ap (λ (n : ℕ). (n + (T - O)) % T) e ∙ back d
  where
    back : (n : ℕ) → ((n + O) % T + (T - O)) % T ≡ n % T
    back n = mod-add-mod (n + O) T (T - O) ∙ ap (λ (u : ℕ). u % T) (let g : n + O + (T - O) ≡ n + T = omega arith in g) ∙ add-mod_right n T

-- the slot tick of a time says how far the time is past a release
pub since : (T O h k d : ℕ) → T ∣ h → O < T → O < h → d < T → ((O + k * T + d) % h + h - O) % T ≡ d
since T O h k d v l lh ld =
    let n : ℕ = O + k * T + d in
    let x : ℕ = n % h + h - O in
    mod_cancel T O x d (omega arith)
    (ap (λ (u : ℕ). u % T) (let g : x + O ≡ n % h + h = omega arith in g)
    ∙ add-mod (n % h) h T
    ∙ rw (mod-eq-zero_of_dvd T v, add-zero, mod-mod_of_dvd T n v, mod-mod)
    (ap (λ (u : ℕ). u % T) (let g : n ≡ d + O + k * T = omega arith in g) ∙ add-mul-mod_self_right (d + O) k T))
    ∙ mod-eq_of_lt ld
