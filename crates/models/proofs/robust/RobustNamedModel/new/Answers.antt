use Rattle.std.proofs.Common.{refl}
use Rattle.vocabulary.specs.declared.model_kind.ModelKind.TheVariants as kind
use Rattle.rules.proofs.Agreement.{made_agrees}
use Rattle.models.proofs.robust.RobustNamedModel.new.Goals as goal

pub returns : goal.returns
returns c = (c.in_ok-check_parameter.ensures, (refl, made_agrees kind.Robust c.args.t c.in_ok-check_parameter.ensures))
