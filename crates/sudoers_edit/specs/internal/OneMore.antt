-- A device of the proof, which no public contract cites: one more in a line, and one less.
use Rattle.std.specs.Prelude.{◌≡◌, ◌≤◌, ◌+◌, ℕ, true, length, List, Some}
use Rattle.sudoers_grammar.specs.Node.{Node}
use Rattle.sudoers_tree.specs.Line.{Line}
use Rattle.sudoers_tree.specs.Single.{reading_of_single_line}
use Rattle.sudoers_edit.specs.Splice.{line_with_splice, line_without_bytes}
use Rattle.sudoers_edit.specs.SpliceEdits.{has_one_item_more}
use Rattle.sudoers_edit.specs.declared.extra_item.ItemListKind.{ItemListKind}

-- The text is the line with a splice at a byte, and reads as it but for one more.
pub record IsLineTextWithItemPutIn (among : ItemListKind) (at from : ℕ) (splice : List ℕ) (old : Line) (text : List ℕ) : Type 0 where
  pub inside : from ≤ length old.text
  pub text_is : text ≡ line_with_splice from splice old.text
  pub new : Node
  pub says : reading_of_single_line text ≡ Some new
  pub more : has_one_item_more among at from (from + length splice) (Some new) (Some old.node) ≡ true

-- The text is the line without some bytes, and reads as it but for one less.
pub record IsLineTextWithItemCutOut (among : ItemListKind) (at from to : ℕ) (old : Line) (text : List ℕ) : Type 0 where
  pub order : from ≤ to
  pub inside : to ≤ length old.text
  pub text_is : text ≡ line_without_bytes from to old.text
  pub new : Node
  pub says : reading_of_single_line text ≡ Some new
  pub more : has_one_item_more among at from to (Some old.node) (Some new) ≡ true
