-- A node by value as the definition has it, and the node that a whole number and a float stand for. Definitions only.
use Rattle.std.specs.Prelude.{cond, ℕ, ◌-◌, ltb, Float}
use Rattle.definition.specs.Record.{Node, cut_node, leaf_node}
use Rattle.node.specs.declared.Node.{Node as Coded}
use Rattle.node.specs.declared.Node.TheVariants.{Cut, Leaf}

abbrev pub as_node : Coded → Node
as_node (Cut axis plane) = cut_node axis plane
as_node (Leaf number) = leaf_node number

-- what stands for a cut is its axis, below 3, and its plane; for a leaf, 3 plus its number
abbrev pub node_of : ℕ → Float → Node
node_of whole plane = cond (ltb whole 3) (cut_node whole plane) (leaf_node (whole - 3))
