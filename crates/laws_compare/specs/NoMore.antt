-- Changes of rows after which no request is allowed that was not allowed before (sudoers(5): the last match is used).
use Rattle.std.specs.Prelude.{◌≡◌, true, false, List, [], ◌∷◌}
use Rattle.laws_compare.specs.Content.{FlatPrivilegeRow}
use Rattle.laws_compare.specs.Covers.{RowCoversRow}

-- The second rows are the first without some that allow, and with some more that deny. In the place of some that allow stand rows that
-- they cover.
pub data GrantsNoMore : List FlatPrivilegeRow → List FlatPrivilegeRow → Type 0 where
  no_row_is_left : GrantsNoMore [] []
  row_stays : (row : FlatPrivilegeRow) (olds news : List FlatPrivilegeRow) → GrantsNoMore olds news → GrantsNoMore (row ∷ olds) (row ∷ news)
  allowing_row_is_narrowed : (row other : FlatPrivilegeRow) (olds news : List FlatPrivilegeRow) → row.grant.atom.allow ≡ true → RowCoversRow row other → GrantsNoMore olds news
      → GrantsNoMore (row ∷ olds) (other ∷ news)
  allowing_row_goes : (row : FlatPrivilegeRow) (olds news : List FlatPrivilegeRow) → row.grant.atom.allow ≡ true → GrantsNoMore olds news → GrantsNoMore (row ∷ olds) news
  denying_row_comes : (row : FlatPrivilegeRow) (olds news : List FlatPrivilegeRow) → row.grant.atom.allow ≡ false → GrantsNoMore olds news → GrantsNoMore olds (row ∷ news)
