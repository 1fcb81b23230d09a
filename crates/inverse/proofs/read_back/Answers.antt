-- `read_back` meets its contract: the root element is read, and the byte that ends the document written after it.
use native.Mathlib.Omega.{arith}
use Rattle.inverse.specs.Sources.{root_there, root_image}
use Rattle.inverse.proofs.Whole.{whole-refused, whole_room, whole-no-end, whole-written}
use Rattle.inverse.proofs.read_back.Goals as goal

pub read_element-requires-clause-image : goal.read_element-requires-clause-image
read_element-requires-clause-image c = root_image c.requires.setting c.requires.spans c.requires.document

pub returns-in_err-end : goal.returns-in_err-end
returns-in_err-end c = rw c.from_residual.ensures (λ k e. whole-refused c.requires.setting k e _ (c.in_err-end.ensures k (root_there e)))

pub returns-then-end-out : goal.returns-then-end-out
returns-then-end-out c = λ k e. whole-no-end c.requires.setting k e (c.in_ok-end.ensures k (root_there e)) c.if-end-out.true

pub put_end-requires : goal.put_end-requires
put_end-requires c =
    let here = c.requires.document in
    let root = c.in_ok-end.ensures here.0 (root_there here.1) in
    omega (arith, (whole_room c.requires.setting here.0 here.1 root).0, c.if-end-out.false)

pub returns : goal.returns
returns c = λ k e. whole-written c.requires.setting k e (c.in_ok-end.ensures k (root_there e)) c.if-end-out.false c.put_end.ensures
