use Rattle.graph.proofs.SearchRows.{probe_asked, probed_back}
use Rattle.loops.proofs.loops_at.Goals as goal

pub begin_search-requires : goal.begin_search-requires
begin_search-requires c = record { few_jobs = c.requires.few_jobs; low = c.requires.low }

pub probe-requires : goal.probe-requires
probe-requires c = probe_asked _ _ _ _ _ c.requires c.begin_search.ensures

pub returns : goal.returns
returns c = probed_back _ _ _ _ _ c.requires c.begin_search.ensures _ _ c.probe.ensures
