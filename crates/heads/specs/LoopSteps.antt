-- One turn of each table, and the ways through a head, each by the answers of its parts.
use Rattle.std.specs.Prelude.{◌≡◌, List, ℕ, suc, ◌+◌, ◌-◌, ◌<◌, ◌≤◌, leb, Ok, Err}
use Rattle.std.proofs.Common.{arith}
use Rattle.vocabulary.specs.Test.{pick}
use Rattle.kinds.specs.declared.Key.{Key}
use Rattle.kinds.specs.declared.Spans.{Spans}
use Rattle.kinds.specs.Limits.{no_key, after, most_links}
use Rattle.kinds.specs.Tasks.{Tasks, tasks_of, period, put_task, put_pair}
use Rattle.kinds.specs.Links.{spans_of, links_in}
use Rattle.numbers.specs.declared.Refusal.{Refusal}
use Rattle.numbers.specs.declared.Refusal.TheVariants as refusal
use Rattle.heads.specs.declared.Progress.{Progress}
use Rattle.heads.specs.Tables.{Heading, Outcome, Reached, Linked, pattern, task_from, on_task, tasks_from, tasks_read, two_at, on_two, pairs_from, pairs_read, PatternTables, heading_at}
use Rattle.heads.specs.Tables.{with_pattern, progress, pattern_read, on_heading, on_pairs, pattern_from, patterns_read, on_pattern, patterns_from}
use Rattle.kinds.specs.declared.Counts.{Counts}
use Rattle.kinds.specs.declared.Cycle.{Cycle}
use Rattle.heads.specs.Heads.{OpeningRead, Middle, Head, opening, counts_are, patterns_after, opening_of, middle_from, head_read, on_opening, on_tasks, on_middle, on_patterns, head_from}

-- what is left of a count, one turn earlier, and at the end
left : (n i : ℕ) → i < n → n - i ≡ suc (n - (i + 1))
left n i h = omega arith

none : (n i : ℕ) → n ≤ i → n - i ≡ 0
none n i h = omega arith

-- ---- tasks
pub tasks_step : (s : List ℕ) (n i at : ℕ) (u : List ℕ) → i < n → tasks_from s (n - i) i at u
    ≡ on_task (task_from s at) u λ t next. tasks_from s (n - (i + 1)) (i + 1) next (put_task u i t)
unfolding tasks_from
tasks_step s n i at u h = rw (left n i h)

pub tasks_none : (s : List ℕ) (n i at : ℕ) (u : List ℕ) → n ≤ i → tasks_from s (n - i) i at u ≡ tasks_read (Ok at) u
unfolding tasks_from
tasks_none s n i at u h = rw (none n i h)

-- ---- pairs
pub pairs_step : (s : List ℕ) (n at : ℕ) (low : Key) (la lb j : ℕ) (u : List ℕ) → j < n → pairs_from s (n - j) at low la lb j u
    ≡ on_two (two_at s at low la lb) u λ x y next. pairs_from s (n - (j + 1)) next (after x y) la lb (j + 1) (put_pair u j x y)
unfolding pairs_from
pairs_step s n at low la lb j u h = rw (left n j h)

pub pairs_none : (s : List ℕ) (n at : ℕ) (low : Key) (la lb j : ℕ) (u : List ℕ) → n ≤ j → pairs_from s (n - j) at low la lb j u ≡ pairs_read (Ok at) u
unfolding pairs_from
pairs_none s n at low la lb j u h = rw (none n j h)

-- ---- a pattern: its heading is refused; its pairs are; neither is
module _ (s : List ℕ) (e : ℕ) (t : Tasks) (h i : ℕ) (done : Progress) (u : PatternTables) where
  pub pattern_refused : {o : Heading} {r : Refusal} → o ≡ heading_at s done.at done.low t.count done.used → o ≡ Err r
      → pattern_read (Err r) u ≡ pattern_from s e t h i done u
  unfolding pattern_from on_heading
  pattern_refused a b = rw (← a, b)

  module _ {g : Heading} {x y c p : ℕ} {m : Spans} {o : Outcome} {v : List ℕ} (a : g ≡ heading_at s done.at done.low t.count done.used)
      (b : g ≡ Ok (pattern x y c, p)) (d : m ≡ spans_of e (period t x) (period t y))
      (f : pairs_read o v ≡ pairs_from s c p no_key m.first m.second done.used u.pairs) where
    pub pattern_stop : {r : Refusal} → o ≡ Err r → pattern_read (Err r) (with_pattern u i x y c v) ≡ pattern_from s e t h i done u
    unfolding pattern_from on_heading on_pairs
    pattern_stop z = rw (← a, b, ← d, ← f, z)

    pub pattern_on : {q l : ℕ} → o ≡ Ok q → l ≡ links_in c h m.whole
        → pattern_read (Ok (progress q (after x y) (done.used + c) (done.links + l))) (with_pattern u i x y c v) ≡ pattern_from s e t h i done u
    unfolding pattern_from on_heading on_pairs
    pattern_on z l = rw (← a, b, ← d, ← f, z, l)

-- ---- patterns: one is refused; one is read; there is none left
module _ (s : List ℕ) (e : ℕ) (t : Tasks) (h n i : ℕ) (done : Progress) (u : PatternTables) where
  pub patterns_stop : {o : Reached} {v : PatternTables} {r : Refusal} → i < n → pattern_read o v ≡ pattern_from s e t h i done u → o ≡ Err r
      → patterns_from s e t h (n - i) i done u ≡ patterns_read (Err r) v
  unfolding patterns_from on_pattern
  patterns_stop l a b = rw (left n i l, ← a, b)

  pub patterns_turn : {o : Reached} {v : PatternTables} {next : Progress} → i < n → pattern_read o v ≡ pattern_from s e t h i done u → o ≡ Ok next
      → patterns_from s e t h (n - i) i done u ≡ patterns_from s e t h (n - (i + 1)) (i + 1) next v
  unfolding patterns_from on_pattern
  patterns_turn l a b = rw (left n i l, ← a, b)

  pub patterns_none : n ≤ i → patterns_from s e t h (n - i) i done u ≡ patterns_read (Ok (done.at, done.links)) u
  unfolding patterns_from
  patterns_none l = rw (none n i l)

-- ---- the head
-- what a head answers where its patterns end at a place, with so many links
unfoldable pub closing : ℕ → ℕ → Counts → Head
closing p l f = pick (leb l most_links) (Ok (f, p)) (Err (refusal.TooManyLinks p))

pub by_opening : (s : List ℕ) (t : List ℕ) (v : PatternTables) {o : OpeningRead} {r : Refusal}
    → o ≡ opening_of s → o ≡ Err r → head_read (Err r) t v ≡ head_from s t v
unfolding head_from on_opening
by_opening s t v a b = rw (← a, b)

pub by_tasks : (s : List ℕ) (t u : List ℕ) (v : PatternTables) {o : OpeningRead} {e n m p₀ : ℕ} {q : Outcome} {r : Refusal}
    → o ≡ opening_of s → o ≡ Ok (opening e n m, p₀) → tasks_read q u ≡ tasks_from s n 0 p₀ t → q ≡ Err r
    → head_read (Err r) u v ≡ head_from s t v
unfolding head_from on_opening on_tasks
by_tasks s t u v a b c d = rw (← a, b, ← c, d)

pub by_middle : (s : List ℕ) (t u : List ℕ) (v : PatternTables) {o : OpeningRead} {e n m p₀ p₁ : ℕ} {q : Outcome} {w : Middle} {r : Refusal}
    → o ≡ opening_of s → o ≡ Ok (opening e n m, p₀) → tasks_read q u ≡ tasks_from s n 0 p₀ t → q ≡ Ok p₁
    → w ≡ middle_from s p₁ (tasks_of n u) → w ≡ Err r → head_read (Err r) u v ≡ head_from s t v
unfolding head_from on_opening on_tasks on_middle
by_middle s t u v a b c d f g = rw (← a, b, ← c, d, ← f, g)

module _ (s : List ℕ) (t u : List ℕ) (v x : PatternTables) {o : OpeningRead} {e n m p₀ p₁ k p₂ : ℕ} {cy : Cycle} {q : Outcome} {w : Middle} {l : Linked}
    (a : o ≡ opening_of s) (b : o ≡ Ok (opening e n m, p₀)) (c : tasks_read q u ≡ tasks_from s n 0 p₀ t) (d : q ≡ Ok p₁)
    (f : w ≡ middle_from s p₁ (tasks_of n u)) (g : w ≡ Ok (cy, k, p₂)) (i : patterns_read l x ≡ patterns_after s p₂ (counts_are e m n k cy) u v) where
  pub by_patterns : {r : Refusal} → l ≡ Err r → head_read (Err r) u x ≡ head_from s t v
  unfolding head_from on_opening on_tasks on_middle on_patterns
  by_patterns j = rw (← a, b, ← c, d, ← f, g, ← i, j)

  pub by_links : {p h : ℕ} {z : Head} → l ≡ Ok (p, h) → z ≡ closing p h (counts_are e m n k cy) → head_read z u x ≡ head_from s t v
  unfolding head_from on_opening on_tasks on_middle on_patterns closing
  by_links j y = rw (← a, b, ← c, d, ← f, g, ← i, j, y)
