-- Laws of the format: the bytes of numbers by parts, and a head by its parts.
use Rattle.std.specs.Prelude.{◌≡◌, refl, List, [], ◌∷◌, ◌++◌, ℕ, zero, suc}
use Rattle.std.proofs.Common.{sym, ap, ap₂, ◌∙◌, append_assoc, append-nil}
use Rattle.vocabulary.specs.Table.{join}
use Rattle.kinds.specs.Tasks.{Tasks, Patterns, Set, from_task, to_task, pair_count}
use Rattle.numbers.specs.Numbers.{number_bytes}
use Rattle.writer.specs.Format.{task_numbers, pair_numbers, pattern_numbers, head_numbers, bytes_in, head_bytes}

-- ---- the bytes of numbers
pub bytes_both : (xs ys : List ℕ) → bytes_in (xs ++ ys) ≡ bytes_in xs ++ bytes_in ys
unfolding bytes_in
bytes_both [] ys = refl
bytes_both (x ∷ xs) ys = ap (λ (zs : List ℕ). number_bytes x ++ zs) (bytes_both xs ys) ∙ sym (append_assoc (number_bytes x) (bytes_in xs) (bytes_in ys))

pub bytes_none : bytes_in [] ≡ []
unfolding bytes_in
bytes_none = refl

pub bytes_more : (v : ℕ) (vs : List ℕ) → bytes_in (v ∷ vs) ≡ number_bytes v ++ bytes_in vs
unfolding bytes_in
bytes_more v vs = refl

pub bytes_one : (v : ℕ) → bytes_in (v ∷ []) ≡ number_bytes v
unfolding bytes_in
bytes_one v = append-nil (number_bytes v)

pub bytes_join : (f : ℕ → List ℕ) (n : ℕ) → bytes_in (join f n) ≡ join (λ k. bytes_in (f k)) n
unfolding bytes_in join
bytes_join f zero = refl
bytes_join f (suc n) = bytes_both (join f n) (f n) ∙ ap (λ (xs : List ℕ). xs ++ bytes_in (f n)) (bytes_join f n)

-- ---- the bytes of a task, of a pair, of a pattern and of the parts of a head
abbrev pub task_bytes : Tasks → ℕ → List ℕ
task_bytes u i = bytes_in (task_numbers u i)

abbrev pub pair_bytes : Patterns → ℕ → ℕ → List ℕ
pair_bytes v k q = bytes_in (pair_numbers v k q)

abbrev pub pattern_bytes : Patterns → ℕ → List ℕ
pattern_bytes v k = bytes_in (pattern_numbers v k)

-- what stands before a pattern's pairs
abbrev pub heading_bytes : Patterns → ℕ → List ℕ
heading_bytes v k = bytes_in (from_task v k ∷ to_task v k ∷ pair_count v k ∷ [])

pub pattern_bytes_lem : (v : Patterns) (k : ℕ) → pattern_bytes v k ≡ heading_bytes v k ++ join (pair_bytes v k) (pair_count v k)
pattern_bytes_lem v k =
    bytes_both (from_task v k ∷ to_task v k ∷ pair_count v k ∷ []) (join (pair_numbers v k) (pair_count v k))
    ∙ ap (λ (xs : List ℕ). heading_bytes v k ++ xs) (bytes_join (pair_numbers v k) (pair_count v k))

abbrev pub opening_bytes : Set → List ℕ
opening_bytes s = bytes_in (s.edition ∷ s.tasks.count ∷ s.processors ∷ [])

pub head_bytes_lem : (s : Set) → head_bytes s
    ≡ opening_bytes s
    ++ join (task_bytes s.tasks) s.tasks.count
    ++ number_bytes s.patterns.count
    ++ join (pattern_bytes s.patterns) s.patterns.count
unfolding head_bytes head_numbers
head_bytes_lem s =
    let o : List ℕ = s.edition ∷ s.tasks.count ∷ s.processors ∷ [] in
    let t : List ℕ = join (task_numbers s.tasks) s.tasks.count in
    let k : List ℕ = s.patterns.count ∷ [] in
    let p : List ℕ = join (pattern_numbers s.patterns) s.patterns.count in
    bytes_both (o ++ t ++ k) p
    ∙ ap₂ ◌++◌
    (bytes_both (o ++ t) k
    ∙ ap₂ ◌++◌ (bytes_both o t ∙ ap (λ (xs : List ℕ). bytes_in o ++ xs) (bytes_join (task_numbers s.tasks) s.tasks.count))
    (bytes_one s.patterns.count))
    (bytes_join (pattern_numbers s.patterns) s.patterns.count)
