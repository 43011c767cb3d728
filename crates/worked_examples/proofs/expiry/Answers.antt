use Rattle.std.proofs.Common.{refl}
use Rattle.std.specs.Str.{chars}
use Rattle.worked_examples.proofs.expiry.Goals as goal

pub returns : goal.returns
unfolding chars
returns c = record {
  none_yet = refl;
  two = refl;
  three = refl;
  most = refl;
  all = refl;
}
