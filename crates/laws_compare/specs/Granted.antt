-- What one user may run on one host.
use Rattle.std.specs.Prelude.{List, [], ◌∷◌}
use Rattle.sudoers_grammar.specs.declared.node.Kind.TheVariants.{User, Host}
use Rattle.sudoers_tree.specs.Line.{Line}
use Rattle.sudoers_match_member.specs.declared.people_and_commands.Who.{Who}
use Rattle.sudoers_match_member.specs.Hits.{is_user_atom_match, is_host_atom_match}
use Rattle.sudoers_match_list.specs.Alike.{IsPointwiseRelated}
use Rattle.sudoers_match.specs.Allows.{ListAllows}
use Rattle.sudoers_match.specs.Rows.{PrivilegeRow, AreRowsPerFlatAtomOfPolicy}
use Rattle.laws_compare.specs.Content.{Grant, IsGrantOfRow}
use Rattle.laws_compare.specs.Covers.{IsListWithoutSome, IsGrantOverruledByLater}

-- The row is for the user and the host.
pub record IsRowForUserOnHost (lines : List Line) (who : Who) (row : PrivilegeRow) : Type 0 where
  pub user : ListAllows User lines (is_user_atom_match who.user) row.users
  pub host : ListAllows Host lines (is_host_atom_match who) row.hosts

-- The second list has all items of the first of which this holds, in their order, and no others.
pub data AreAllItemsWith {X : Type 0} (P : X → Type 0) : List X → List X → Type 0 where
  no_item_more : AreAllItemsWith P [] []
  item_with : (x : X) (xs ys : List X) → P x → AreAllItemsWith P xs ys → AreAllItemsWith P (x ∷ xs) (x ∷ ys)
  item_without : (x : X) (xs ys : List X) → (P x → ⊥) → AreAllItemsWith P xs ys → AreAllItemsWith P (x ∷ xs) ys

-- The grants are what the rows for the user and the host say, in file order, perhaps without some that later ones cover.
pub record AreGrantsForUserOnHost (lines : List Line) (who : Who) (granted : List Grant) : Type 0 where
  pub rows : List PrivilegeRow
  pub are_rows : AreRowsPerFlatAtomOfPolicy lines rows
  pub own : List PrivilegeRow
  pub are_own : AreAllItemsWith (IsRowForUserOnHost lines who) rows own
  pub grants : List Grant
  pub are_grants : IsPointwiseRelated (IsGrantOfRow lines) own grants
  pub deciding : IsListWithoutSome IsGrantOverruledByLater grants granted
