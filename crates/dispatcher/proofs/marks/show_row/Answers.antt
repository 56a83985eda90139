use mathlib.Core.Path.{refl, ◌∙◌}
use Rattle.vocabulary.proofs.Prefix.{taken_table}
use Rattle.dispatcher.proofs.marks.show_row.Goals as goal

pub returns : goal.returns
returns c = c.copy_from_slice.ensures.after ∙ taken_table _ _ 8 0 _ c.told-row c.requires (λ i l. refl)
