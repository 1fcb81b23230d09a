-- `next` meets its contract, by the cursor.
use Rattle.children.proofs.next.Goals as goal

pub returns-in-Edges : goal.returns-in-Edges
returns-in-Edges c = λ k parts a shows. rw c.in-Edges.is (c.next_member.ensures k parts a (rw c.in-Edges.is at shows))

pub returns-in-Choice : goal.returns-in-Choice
returns-in-Choice c = λ k parts a shows. rw c.in-Choice.is (c.next_choice.ensures k parts a (rw c.in-Choice.is at shows))

pub returns-in-Items : goal.returns-in-Items
returns-in-Items c =
    λ k parts a shows.
    rw c.in-Items.is
    (c.next_item.ensures c.args.source.now c.args.map.now c.args.image.sigma _ parts (rw c.in-Items.is at shows))
