-- Which items take a byte, while items are added.
use Rattle.std.proofs.Common.{◌<◌, ◌+◌, ℕ, List, length, get_or, slice_set, arith, sym, ap, subst, ◌∙◌, inl, inr}
use Rattle.std.proofs.lemmas.Bool.{cases_eq}
use Rattle.std.proofs.lemmas.List.{get_or-set_same, get_or-set_other}
use Rattle.sudoers_match_member.specs.declared.item_set.ItemSet.{ItemSet}
use Rattle.sudoers_match_member.specs.internal.Places.{no_items, HasItem, IsTaker}

-- what is a taker of a byte stays one where another is added for it
pub kept_with_added : (takers : List ItemSet) (byte : ℕ) (new : ItemSet) → byte < length takers → ((i : ℕ) → IsTaker takers byte i → HasItem new i) → (b i : ℕ) → IsTaker takers b i → IsTaker (slice_set takers byte new) b i
kept_with_added takers byte new within more b i is =
    elim (cases_eq b byte) [
      | inl same ↦ subst (λ set. HasItem set i) (sym (ap (λ n. get_or (slice_set takers byte new) n no_items) same ∙ get_or-set_same takers byte new no_items within)) (more i (subst (λ n. IsTaker takers n i) same is))
      | inr other ↦ subst (λ set. HasItem set i) (sym (get_or-set_other takers byte b new no_items other)) is
    ]

pub added_is_taker : (takers : List ItemSet) (byte item : ℕ) (new : ItemSet) → byte < length takers → HasItem new item → IsTaker (slice_set takers byte new) byte item
added_is_taker takers byte item new within has = subst (λ set. HasItem set item) (sym (get_or-set_same takers byte new no_items within)) has

-- the taker of each byte up to this one, from those before it
pub taken_up_to : (P : ℕ → Type 0) (takers after : List ItemSet) (byte item : ℕ) → ((b : ℕ) → b < byte → P b → IsTaker takers b item) → ((b i : ℕ) → IsTaker takers b i → IsTaker after b i)
    → (P byte → IsTaker after byte item) → (b : ℕ) → b < byte + 1 → P b → IsTaker after b item
taken_up_to P takers after byte item before kept here b h is =
    elim (cases_eq b byte) [
      | inl same ↦ subst (λ n. IsTaker after n item) (sym same) (here (subst P same is))
      | inr other ↦ kept b item (before b (omega (arith, h, other)) is)
    ]
