use Rattle.std.proofs.Common.{sym, subst}
use Rattle.attr_kit.specs.AllowLists.{is_listed}
use Rattle.attr_kit.specs.Attributes.{AreAttributes}
use Rattle.attr_kit.proofs.Keeping.{kept_attributes}
use Rattle.attr_kit.proofs.attr_set.restriction.Goals as goal

pub from_attributes-requires : goal.from_attributes-requires
from_attributes-requires c = subst AreAttributes (sym c.in_ok-few.ensures.value) (kept_attributes (is_listed c.args.list.now) c.args.pairs.now.items c.requires)
