-- A sound set's head by its parts: what they ask holds, and together they are the head.
use mathlib.Core.Path.{◌≡◌, refl, sym, ap, ◌∙◌}
use mathlib.Core.Bool.{true}
use mathlib.Core.List.{List, [], ◌∷◌, ◌++◌}
use Prim.Native.Nat.{ℕ, zero, suc, ◌+◌, ◌*◌, ◌/◌, ◌%◌, ◌<◌, ◌≤◌}
use native.Mathlib.Omega.{arith}
use lib.ListN.{length, get_or, length-append}
use Rattle.vocabulary.specs.Table.{join}
use Rattle.kinds.specs.declared.Counts.{Counts}
use Rattle.kinds.specs.Tasks.{Set}
use Rattle.kinds.specs.Sound.{sound}
use Rattle.kinds.proofs.SoundFacts.{Sound, sound_facts}
use Rattle.numbers.specs.Numbers.{number_bytes}
use Rattle.writer.specs.Format.{task_numbers, bytes_in, head_bytes}
use Rattle.writer.specs.FormatLaws.{bytes_join, pattern_bytes, head_bytes_lem}
use Rattle.kinds.specs.declared.SetView.{SetView}
use Rattle.writer.specs.Lent.{part, PatternsLent}
use Rattle.kinds.specs.Build.{set_in}
use Rattle.writer.specs.Wrote.{Wrote, wrote_both, wrote_long}
use Rattle.writer.proofs.Widths.{width_one, three_long}
use Rattle.writer.proofs.Turns.{tasks_part}

module _ (t : SetView) (ok : sound (set_in t) ≡ true) where
  abbrev s : Set
  s = set_in t

  abbrev f : Counts
  f = t.counts

  abbrev xs : List ℕ
  xs = t.tables.now.attributes

  facts : Sound s
  facts = sound_facts s ok

  -- ---- what the parts ask
  pub few_tasks : f.tasks ≤ 64
  few_tasks = facts.few_tasks

  pub few_patterns : f.patterns ≤ 64
  few_patterns = facts.few_patterns

  pub low_edition : f.edition < 128
  low_edition = omega (arith, facts.edition)

  pub low_processors : f.processors < 128
  low_processors = omega (arith, facts.few_processors)

  pub patterns_lent : PatternsLent (s.patterns)
  patterns_lent =
      record {
        few = facts.few_patterns;
        from = λ k l. omega (arith, facts.from_low k l, facts.few_tasks);
        to = λ k l. omega (arith, facts.to_low k l, facts.few_tasks);
        room = facts.room;
      }

  -- a number of a task, by its task and its place among the four
  pub low_tasks : (j : ℕ) → j < 4 * f.tasks → get_or xs (0 + j) 0 < 2097152
  low_tasks j l = let z : 0 + j ≡ j = omega arith in rw z (by (j % 4) refl)
    where
      i : ℕ
      i = j / 4

      in_range : i < f.tasks
      in_range = omega arith

      at : (r : ℕ) → j % 4 ≡ r → get_or xs (4 * i + r) 0 < 2097152 → get_or xs j 0 < 2097152
      at r e h = let z : 4 * i + r ≡ j = omega arith in rw z at h

      by : (r : ℕ) → j % 4 ≡ r → get_or xs j 0 < 2097152
      by zero e = at 0 e (let z : 4 * i + 0 ≡ 4 * i = omega arith in rw z (omega (arith, facts.low_period i in_range)))
      by (suc zero) e = at 1 e (omega (arith, facts.low_period i in_range, facts.running_low i in_range, facts.deadline_low i in_range))
      by (suc (suc zero)) e = at 2 e (omega (arith, facts.low_period i in_range, facts.offset_low i in_range))
      by (suc (suc (suc zero))) e = at 3 e (omega (arith, facts.low_period i in_range, facts.deadline_low i in_range))
      by (suc (suc (suc (suc r)))) e = absurd (omega arith)

  -- ---- the head by its parts
  abbrev opening : List ℕ
  opening = bytes_in (f.edition ∷ f.tasks ∷ f.processors ∷ [])

  abbrev tasks : List ℕ
  tasks = bytes_in (part xs 0 (4 * f.tasks))

  abbrev patterns : List ℕ
  patterns = join (pattern_bytes (s.patterns)) f.patterns

  head_parts : head_bytes s ≡ opening ++ tasks ++ number_bytes f.patterns ++ patterns
  head_parts =
      head_bytes_lem s
      ∙ ap (λ (ys : List ℕ). opening ++ ys ++ number_bytes f.patterns ++ patterns)
      (sym (bytes_join (task_numbers s.tasks) f.tasks) ∙ ap bytes_in (tasks_part xs f.tasks f.tasks))

  parts_long : length (head_bytes s) ≡ length opening + length tasks + length (number_bytes f.patterns) + length patterns
  parts_long =
      omega (
        arith,
        ap length head_parts,
        length-append (opening ++ tasks ++ number_bytes f.patterns) patterns,
        length-append (opening ++ tasks) (number_bytes f.patterns),
        length-append opening tasks,
      )

  -- edition, task count, m and pattern count have a byte each
  pub head_long : {a b : ℕ} → a ≡ length tasks → b ≡ length patterns → 4 + a + b ≡ length (head_bytes s)
  head_long p q =
      omega (
        arith,
        p,
        q,
        parts_long,
        three_long f.edition f.tasks f.processors refl refl refl,
        width_one f.edition low_edition,
        width_one f.tasks (omega (arith, few_tasks)),
        width_one f.processors low_processors,
        width_one f.patterns (omega (arith, few_patterns)),
      )

  module _ (out : List ℕ) where
    pub head_wrote : {a b c d : List ℕ} {p q r t : ℕ} → Wrote out 0 opening a p → Wrote a p tasks b q → Wrote b q (number_bytes f.patterns) c r
        → Wrote c r patterns d t → Wrote out 0 (head_bytes s) d t
    head_wrote u v w x = rw head_parts (wrote_both (wrote_both (wrote_both u v) w) x)

    -- ---- there is room for each
    module _ (room : length (head_bytes s) ≤ length out) where
      pub opening_room : 0 + length opening ≤ length out
      opening_room = omega (arith, parts_long)

      module _ {a : List ℕ} {p : ℕ} (u : Wrote out 0 opening a p) where
        pub tasks_room : p + length tasks ≤ length a
        tasks_room = omega (arith, parts_long, u.ends, wrote_long u)

        module _ {b : List ℕ} {q : ℕ} (v : Wrote a p tasks b q) where
          pub count_room : q + length (number_bytes f.patterns) ≤ length b
          count_room = omega (arith, parts_long, u.ends, wrote_long u, v.ends, wrote_long v)

          pub patterns_room : {c : List ℕ} {r : ℕ} → Wrote b q (number_bytes f.patterns) c r → r + length patterns ≤ length c
          patterns_room w = omega (arith, parts_long, u.ends, wrote_long u, v.ends, wrote_long v, w.ends, wrote_long w)
