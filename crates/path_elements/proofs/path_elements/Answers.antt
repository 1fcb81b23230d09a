-- `path_elements` meets its contract: the root element is given, and the model's sum over rows is the number for the image.
use Rattle.path_elements.proofs.Whole.{root_given, whole_count}
use Rattle.path_elements.proofs.path_elements.Goals as goal

pub element-root-requires : goal.element-root-requires
element-root-requires c = root_given c.requires

pub returns : goal.returns
returns c m = whole_count m (c.element-root.ensures (root_given m)).0
