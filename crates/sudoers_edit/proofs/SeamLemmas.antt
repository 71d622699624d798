-- Where rows stand that say something.
use Rattle.sudoers_edit.proofs.Common.{ByteExtent, List, Some, ap, get_or, if◌then◌else◌, length, map, ne_eqb, option_map, owned_bytes_start, owned_bytes_stop, refl, slice_get, slice_get-map, slice_get_read, sym, ℕ}
use Rattle.sudoers_edit.proofs.Common.{◌-◌, ◌<◌, ◌∙◌, ◌≡◌, ◌≢◌}

module _ {R A : Type 0} (extent : A → ByteExtent) (said : R → A) (rows : List R) where
  abbrev extents : List ByteExtent
  extents = map extent (map said rows)

  -- the extent of what a row says
  stands_at : (at : ℕ) (row : R) (is : ByteExtent) → at < length rows → row ≡ get_or rows at row → is ≡ extent (said row) → slice_get extents at ≡ Some is
  stands_at at row is within there same =
      slice_get-map extent (map said rows) at
      ∙ ap (option_map extent) (slice_get-map said rows at ∙ ap (option_map said) (slice_get_read rows (length rows) at row refl within there))
      ∙ ap (λ (x : ByteExtent). Some x) (sym same)

  -- behind the one before it
  pub behind_one : (at : ℕ) (row : R) (is : ByteExtent) → at ≢ 0 → at - 1 < length rows → row ≡ get_or rows (at - 1) row → is ≡ extent (said row) → Some is.1 ≡ owned_bytes_start at extents
  behind_one at row is later within there same =
      ap (option_map (λ (x : ByteExtent). x.1)) (sym (stands_at (at - 1) row is within there same))
      ∙ sym (ap (λ b. if b then option_map (λ (x : ByteExtent). x.0) (slice_get extents 0) else option_map (λ (x : ByteExtent). x.1) (slice_get extents (at - 1))) (ne_eqb at 0 later))

  -- up to the start of the next
  pub at_next : (at : ℕ) (row : R) (is : ByteExtent) → at ≡ 0 → 1 < length rows → row ≡ get_or rows 1 row → is ≡ extent (said row) → Some is.0 ≡ owned_bytes_stop at extents
  at_next at row is first within there same =
      ap (option_map (λ (x : ByteExtent). x.0)) (sym (stands_at 1 row is within there same)) ∙ ap (λ n. owned_bytes_stop n extents) (sym first)

  -- up to its own end
  pub at_end : (at : ℕ) (row : R) (is : ByteExtent) → at ≢ 0 → at < length rows → row ≡ get_or rows at row → is ≡ extent (said row) → Some is.1 ≡ owned_bytes_stop at extents
  at_end at row is later within there same =
      ap (option_map (λ (x : ByteExtent). x.1)) (sym (stands_at at row is within there same))
      ∙ sym (ap (λ b. if b then option_map (λ (x : ByteExtent). x.0) (slice_get extents 1) else option_map (λ (x : ByteExtent). x.1) (slice_get extents at)) (ne_eqb at 0 later))
