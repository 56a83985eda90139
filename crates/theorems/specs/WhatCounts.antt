-- Entries beyond the counts count for nothing, in every answer.
use Rattle.std.specs.Prelude.{◌≡◌, List, ℕ, ℤ}
use Rattle.kinds.specs.Tasks.{Set}
use Rattle.kinds.specs.Sound.{sound}
use Rattle.kinds.proofs.WhatCounts.{Agree, sound_agree}
use Rattle.screen.specs.Findings.{finding_of, adjusted_of, releases_left, deadlines_left}
use Rattle.writer.specs.Writing.{write_for}
use Rattle.judge.specs.Judgement.{verdict_of}
use Rattle.dispatcher.specs.declared.State.{State}
use Rattle.dispatcher.specs.Refusals.{started_of, stepped_of, left_of}
use Rattle.theorems.specs.SameVerdict.{same_verdict, same_start}
use Rattle.theorems.specs.SameFinding.{same_finding_of, same_adjusted, same_releases_left, same_deadlines_left}
use Rattle.theorems.specs.SameStep.{same_step, same_left}
use Rattle.theorems.specs.SameWriting.{same_written}

-- two sets get the same from every call: rule 10, the screen, adjusted times with both buffers, the judge, starting, stepping with the
-- output, and the writer with its buffer
pub record SameAnswers (s t : Set) : Type 0 where
  pub rule_10 : sound s ≡ sound t
  pub screen : finding_of s ≡ finding_of t
  pub adjusted : (p q : ℕ) → adjusted_of s p q ≡ adjusted_of t p q
  pub releases : (r d : List ℤ) → releases_left s r d ≡ releases_left t r d
  pub deadlines : (r d : List ℤ) → deadlines_left s r d ≡ deadlines_left t r d
  pub judge : (slots : List ℕ) → verdict_of s slots ≡ verdict_of t slots
  pub start : (slots : List ℕ) (state : State) → started_of s slots state ≡ started_of t slots state
  pub step : (slots : List ℕ) (state : State) (report : ℕ) (out : List ℕ) → stepped_of s slots state report out ≡ stepped_of t slots state report out
  pub left : (slots : List ℕ) (state : State) (report : ℕ) (out : List ℕ) → left_of s slots state report out ≡ left_of t slots state report out
  pub write : (slots out : List ℕ) → write_for s slots out ≡ write_for t slots out

-- ==== Two sets that agree on what counts, which is the edition, m, the counts and the entries within them, get the same answers.
pub what_counts : (s t : Set) → Agree s t → SameAnswers s t
what_counts s t g =
    record {
      rule_10 = sound_agree s t g;
      screen = same_finding_of s t g;
      adjusted = same_adjusted s t g;
      releases = same_releases_left s t g;
      deadlines = same_deadlines_left s t g;
      judge = same_verdict s t g;
      start = same_start s t g;
      step = same_step s t g;
      left = same_left s t g;
      write = same_written s t g;
    }
