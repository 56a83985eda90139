use mathlib.Core.Path.{refl}
use Rattle.judge.proofs.NeedLaws.{countable}
use Rattle.judge.proofs.VerdictChain.{worded, swept_bad, swept_good, counted}
use Rattle.judge.proofs.judge_rows.Goals as goal

pub put_first_jobs-requires : goal.put_first_jobs-requires
put_first_jobs-requires c = (countable _ _ c.requires.1, refl)

pub sweep-requires : goal.sweep-requires
sweep-requires c = (c.requires.1, c.put_first_jobs.ensures, c.requires.2)

pub misplaced-requires : goal.misplaced-requires
misplaced-requires c = let f = c.requires.1 in
    (worded _ _ f, f.some_processors, f.few_processors, (c.in-Some.ensures.bad _ refl).low)

pub returns-in-Some : goal.returns-in-Some
returns-in-Some c = let w = c.in-Some.ensures.bad _ refl in
    swept_bad _ _ _ c.requires.1 c.sweep.new.rows _ w (c.misplaced.ensures _ w)

pub judge_counts-requires : goal.judge_counts-requires
judge_counts-requires c = counted _ _ _ c.requires.1 _ (c.in_default.ensures.good refl) c.requires.0 c.put_first_jobs.ensures

pub returns : goal.returns
returns c = let w = c.in_default.ensures.good refl in
    swept_good _ _ _ c.requires.1 _ w (c.judge_counts.ensures (counted _ _ _ c.requires.1 _ w c.requires.0 c.put_first_jobs.ensures))
