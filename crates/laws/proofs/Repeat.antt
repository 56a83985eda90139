-- One cycle speaks for all time: what a plan shows, when jobs are released and what they get come again after each cycle.
use Rattle.std.specs.Prelude.{◌≡◌, Bool, true, ℕ, ◌+◌, ◌-◌, ◌*◌, ◌%◌, ◌/◌, ◌≤◌, ◌<◌, eqb, leb}
use Rattle.std.proofs.Common.{sym, ap, ◌∙◌, mod-lt, div-add-mod', lt_of_lt_of_le, arith, le-leb, leb-true}
use Rattle.std.proofs.Math.Path.{fun_ext}
use Rattle.std.specs.Int.{◌∣◌}
use Rattle.std.proofs.Math.Nat.{mod-mod, add-mod_right, mod-add-div', add-mul-mod_self_right, div-mul_cancel, le_of_dvd}
use Rattle.vocabulary.proofs.Test.{both}
use Rattle.vocabulary.proofs.Count.{count_same}
use Rattle.vocabulary.specs.Least.{some}
use Rattle.vocabulary.proofs.Remainder.{since}
use Rattle.kinds.specs.Tasks.{Tasks, Set, period, offset, deadline}
use Rattle.kinds.specs.Cycle.{cycle, jobs_of}
use Rattle.kinds.specs.Jobs.{release}
use Rattle.kinds.specs.Plans.{Plan, slot, shows, shown, awake, runs, ticks}
use Rattle.laws.specs.Repeat.{SlotsAgain, ReleasesAgain}
use Rattle.kinds.proofs.SoundFacts.{Sound, some_jobs}

-- ---- slots
pub slot_again : (p : Plan) (t c q : ℕ) → SlotsAgain p t c q
unfolding slot
slot_again p t c q = rw add-mul-mod_self_right

pub slot_mod : (p : Plan) (t q : ℕ) → slot p (t % p.cycle) q ≡ slot p t q
unfolding slot
slot_mod p t q = rw mod-mod

pub slot_next : (p : Plan) (t q : ℕ) → slot p (t + p.cycle) q ≡ slot p t q
unfolding slot
slot_next p t q = rw add-mod_right

pub shows_again : (p : Plan) (i t c : ℕ) → shows p i (t + c * p.cycle) ≡ shows p i t
unfolding shows
shows_again p i t c = fun_ext (λ q. ap (λ (x : ℕ). eqb x (i + 1)) (slot_again p t c q))

pub shown_again : (p : Plan) (i t c : ℕ) → shown p i (t + c * p.cycle) ≡ shown p i t
unfolding shown
shown_again p i t c = ap (λ (f : ℕ → Bool). some f p.processors) (shows_again p i t c)

-- a time and its slot tick show the same
pub shown_mod : (p : Plan) (i t : ℕ) → shown p i (t % p.cycle) ≡ shown p i t
shown_mod p i t = sym (shown_again p i (t % p.cycle) (t / p.cycle)) ∙ ap (shown p i) (mod-add-div' t p.cycle)

-- ---- tasks that are awake
-- once awake, a task runs where it is shown
pub runs_awake : (u : Tasks) (p : Plan) (i t : ℕ) → offset u i ≤ t → runs u p i t ≡ shown p i t
unfolding runs awake
runs_awake u p i t h = rw (le-leb (offset u i) t h)

pub runs_shown : (u : Tasks) (p : Plan) (i t : ℕ) → runs u p i t ≡ true → (offset u i ≤ t) × (shown p i t ≡ true)
unfolding runs awake
runs_shown u p i t e = let a = both {a = leb (offset u i) t} e in (leb-true (offset u i) t a.0, a.1)

pub release_awake : (u : Tasks) (i k d : ℕ) → offset u i ≤ release u i k + d
unfolding release
release_awake u i k d = omega arith

-- ---- jobs
-- n cycles after a job the same comes again
pub release_later : (u : Tasks) (i k n : ℕ) → period u i ∣ cycle u → release u i (k + n * jobs_of u i) ≡ release u i k + n * cycle u
unfolding release jobs_of
release_later u i k n d = omega (arith, ap (λ (x : ℕ). n * x) (div-mul_cancel (period u i) d))

-- job k's release, from that of the job of the first cycle that it repeats
pub release_again : (u : Tasks) (i k : ℕ) → period u i ∣ cycle u → ReleasesAgain u i k
unfolding release jobs_of
release_again u i k d =
    let n : ℕ = cycle u / period u i in
    omega (arith, ap (λ (x : ℕ). x * period u i) (div-add-mod' k n), ap (λ (x : ℕ). k / n * x) (div-mul_cancel (period u i) d))

-- what runs past a release runs past the release that it repeats
pub runs_shift : (u : Tasks) (p : Plan) (i k l c d : ℕ) → release u i k ≡ release u i l + c * p.cycle
    → runs u p i (release u i k + d) ≡ runs u p i (release u i l + d)
runs_shift u p i k l c d e =
    runs_awake u p i (release u i k + d) (release_awake u i k d)
    ∙ ap (shown p i) (let g : release u i k + d ≡ release u i l + d + c * p.cycle = omega arith in g)
    ∙ shown_again p i (release u i l + d) c
    ∙ sym (runs_awake u p i (release u i l + d) (release_awake u i l d))

-- what is released a whole number of cycles later gets as much
pub ticks_shift : (u : Tasks) (p : Plan) (i k l c : ℕ) → release u i k ≡ release u i l + c * p.cycle → ticks u p i k ≡ ticks u p i l
unfolding ticks
ticks_shift u p i k l c e =
    count_same (runs u p i) (runs u p i) (release u i k) (release u i l) (deadline u i) (λ t h. runs_shift u p i k l c t e)

-- a job gets what the job of the first cycle gets that it repeats
pub ticks_again : (u : Tasks) (p : Plan) (i k : ℕ) → p.cycle ≡ cycle u → period u i ∣ cycle u → ticks u p i k ≡ ticks u p i (k % jobs_of u i)
ticks_again u p i k h d = ticks_shift u p i k (k % jobs_of u i) (k / jobs_of u i) (rw h (release_again u i k d))

-- jobs of one cycle get c ticks each: so does every job
pub every_job : (s : Set) → Sound s → (p : Plan) (i c : ℕ) → p.cycle ≡ cycle s.tasks → i < s.tasks.count
    → ((k : ℕ) → k < jobs_of s.tasks i → ticks s.tasks p i k ≡ c) → (k : ℕ) → ticks s.tasks p i k ≡ c
every_job s f p i c h l all k =
    ticks_again s.tasks p i k h (f.divides i l) ∙ all (k % jobs_of s.tasks i) (mod-lt k (some_jobs s f i l))

-- the slot tick of a time says how far the time is past a release
pub past_release : (s : Set) → Sound s → (i k d : ℕ) → i < s.tasks.count → d < period s.tasks i
    → ((release s.tasks i k + d) % cycle s.tasks + cycle s.tasks - offset s.tasks i) % period s.tasks i ≡ d
unfolding release
past_release s f i k d l ld =
    since (period s.tasks i) (offset s.tasks i) (cycle s.tasks) k d (f.divides i l) (f.offset_low i l)
    (lt_of_lt_of_le (f.offset_low i l) (le_of_dvd f.some_cycle (f.divides i l))) ld
