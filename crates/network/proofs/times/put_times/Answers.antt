use Rattle.network.specs.JobTimes.{put_not_first, put_not_second, put_asked, put_both}
use Rattle.network.proofs.times.put_times.Goals as goal

pub returns-then-releases-n : goal.returns-then-releases-n
returns-then-releases-n c = put_not_first _ c.requires _ _ c.if-releases-n.true

pub returns-then-deadlines-n : goal.returns-then-deadlines-n
returns-then-deadlines-n c = put_not_second _ c.requires _ _ c.if-releases-n.false c.if-deadlines-n.true

pub write_times-requires : goal.write_times-requires
write_times-requires c = put_asked _ c.requires c.args.releases.now c.args.deadlines.now c.if-releases-n.false c.if-deadlines-n.false

pub returns : goal.returns
returns c = put_both _ c.requires _ _ c.if-releases-n.false c.if-deadlines-n.false _ _ c.write_times.ensures
