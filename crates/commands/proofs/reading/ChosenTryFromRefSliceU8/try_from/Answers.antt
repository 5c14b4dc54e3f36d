use Rattle.std.proofs.Common.{◌≡◌, refl, rules, arith}
use Rattle.std.specs.Prelude.{codes}
use Rattle.std.proofs.lemmas.Slice.Eq.{text_from_reads}
use Rattle.commands.proofs.reading.ChosenTryFromRefSliceU8.try_from.Goals as goal

pub returns-in-counts : goal.returns-in-counts
returns-in-counts c = let e : c.args.name.now ≡ codes "counts" = text_from_reads _ _ (omega arith) (search rules) in rw e refl

pub returns-in-weights : goal.returns-in-weights
returns-in-weights c = let e : c.args.name.now ≡ codes "weights" = text_from_reads _ _ (omega arith) (search rules) in rw e refl
