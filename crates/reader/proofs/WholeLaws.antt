-- For a caller that lends tables of zeros: where no numbers are given the bytes are no head, or more than one; else the tables are its set.
use mathlib.Core.Path.{◌≡◌, refl, sym, ap, subst, ◌∙◌}
use mathlib.Core.Bool.{Bool, true, false}
use mathlib.Core.List.{List}
use Prim.Native.Nat.{ℕ}
use borrow.Author.Tests.{eqb-true, eqb-false}
use lib.Dec.{eqb}
use lib.ListN.{length}
use Rattle.std.specs.Prelude.{Option, Some, None, Ok, Err}
use Rattle.std.proofs.lemmas.Option.{none-some, same_Some}
use Rattle.vocabulary.specs.Test.{pick}
use Rattle.kinds.specs.declared.Counts.{Counts}
use Rattle.kinds.specs.Tasks.{view}
use Rattle.kinds.specs.SoundByTests.{CountsFound}
use Rattle.heads.specs.Tables.{PatternTables, no_pattern_tables}
use Rattle.heads.specs.Heads.{Head, head_read, set_of}
use Rattle.heads.proofs.HeadLaws.{head_of}
use Rattle.reader.specs.Files.{take_head, taken_of, WholeRead, whole_read, whole_counts, whole_from}
use Rattle.reader.proofs.ReadLaws.{WholeHead, whole_head, left_over}

module _ (s t : List ℕ) (v : PatternTables) {c : Option Counts} (read : whole_read c t v ≡ whole_from s no_pattern_tables) where
  counts : c ≡ whole_counts (head_of s).outcome (length s)
  unfolding whole_from
  counts = ap (λ (r : WholeRead). r.counts) read

  headed : (o : Head) → (head_of s).outcome ≡ o → head_read o t v ≡ head_of s
  unfolding whole_from
  headed o e =
      let a : t ≡ (head_of s).tasks = ap (λ (r : WholeRead). r.tasks) read in
      let b : v ≡ (head_of s).patterns = ap (λ (r : WholeRead). r.patterns) read in
      rw (← e, a, b)

  pub whole_none : c ≡ None → taken_of s ≡ None
  unfolding whole_counts taken_of take_head
  whole_none z = by (head_of s).outcome refl (sym z ∙ counts)
    where
      by_end : (g : Counts) (at : ℕ) → (head_of s).outcome ≡ Ok (g, at) → (b : Bool) → eqb at (length s) ≡ b → None ≡ pick b (Some g) None → taken_of s ≡ None
      by_end g at e true q h = absurd (none-some g h)
      by_end g at e false q h = left_over s t v (headed (Ok (g, at)) e) refl (eqb-false at (length s) q)

      by : (o : Head) → (head_of s).outcome ≡ o → None ≡ whole_counts o (length s) → taken_of s ≡ None
      by (Ok (g, at)) e h = by_end g at e (eqb at (length s)) refl h
      by (Err r) e h = rw e

  module _ {f : Counts} (z : c ≡ Some f) where
    pub whole_some : WholeHead s f t v
    unfolding whole_counts
    whole_some = by (head_of s).outcome refl (sym z ∙ counts)
      where
        by_end : (g : Counts) (at : ℕ) → (head_of s).outcome ≡ Ok (g, at) → (b : Bool) → eqb at (length s) ≡ b → Some f ≡ pick b (Some g) None → WholeHead s f t v
        by_end g at e true q h = subst (λ (c : Counts). WholeHead s c t v) (sym (same_Some f g h)) (whole_head s t v (headed (Ok (g, at)) e) refl (eqb-true at (length s) q))
        by_end g at e false q h = absurd (none-some f (sym h))

        by : (o : Head) → (head_of s).outcome ≡ o → Some f ≡ whole_counts o (length s) → WholeHead s f t v
        by (Ok (g, at)) e h = by_end g at e (eqb at (length s)) refl h
        by (Err r) e h = absurd (none-some f (sym h))

    -- what such a head says of its numbers
    pub whole_found : CountsFound (view (set_of f t v)) f
    whole_found =
        let w = whole_some in
        record {
          is_sound = w.is_sound;
          edition = refl;
          processors = refl;
          tasks = refl;
          patterns = refl;
          ticks = w.ticks;
          jobs = w.jobs;
        }
