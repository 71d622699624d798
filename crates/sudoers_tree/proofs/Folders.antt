-- Names of folders: a name up to and with its last `/`, and a name without the `/` at its end.
use Rattle.sudoers_tree.proofs.Common.{Bool, IsFirstByte, List, None, NoneAfter, Nowhere, Option, Passes, Some, [], ap, arith, false, folder_of, if◌then◌else◌, is_byte, length, list_all}
use Rattle.sudoers_tree.proofs.Common.{name_without_trailing_slashes, refl, suc, sym, take, true, zero, ℕ, ◌&&◌, ◌++◌, ◌+◌, ◌<◌, ◌==◌, ◌||◌, ◌∙◌, ◌∷◌, ◌≡◌}
use Rattle.std.specs.Option.{is_some}
use Rattle.sudoers_grammar.specs.Piece.{has_byte}

-- ---- a name up to and with its last `/`

bytes_found_nowhere_have_no_such_byte : (x : ℕ) (name : List ℕ) → Nowhere (Passes (is_byte x) name) 0 (length name) → has_byte x name ≡ false
bytes_found_nowhere_have_no_such_byte x [] none = refl
bytes_found_nowhere_have_no_such_byte x (b ∷ name) none = by (b == x) refl (bytes_found_nowhere_have_no_such_byte x name (λ k low high p. none (suc k) (omega arith) (omega (arith, high)) p))
  where
    by : (t : Bool) → (b == x) ≡ t → has_byte x name ≡ false → has_byte x (b ∷ name) ≡ false
    by true e later = absurd (none 0 (omega arith) (omega arith) e)
    by false e later = ap (λ t. t || has_byte x name) e ∙ later

or_with_true_is_true : (t u : Bool) → u ≡ true → (t || u) ≡ true
or_with_true_is_true true u e = refl
or_with_true_is_true false u e = e

bytes_with_byte_at_index_have_it : (x : ℕ) (name : List ℕ) (at : ℕ) → at < length name → Passes (is_byte x) name at → has_byte x name ≡ true
bytes_with_byte_at_index_have_it x [] at within is = absurd (omega (arith, within))
bytes_with_byte_at_index_have_it x (b ∷ name) zero within is = ap (λ t. t || has_byte x name) is
bytes_with_byte_at_index_have_it x (b ∷ name) (suc at) within is = or_with_true_is_true (b == x) (has_byte x name) (bytes_with_byte_at_index_have_it x name at (omega (arith, within)) is)

pub first_byte_is_found_iff_bytes_have_it : (x : ℕ) (name : List ℕ) (first : Option ℕ) → IsFirstByte (is_byte x) name first → is_some first ≡ has_byte x name
first_byte_is_found_iff_bytes_have_it x name None none = sym (bytes_found_nowhere_have_no_such_byte x name none)
first_byte_is_found_iff_bytes_have_it x name (Some at) first = sym (bytes_with_byte_at_index_have_it x name at first.0.high first.1)

pub name_without_slash_has_empty_folder : (name : List ℕ) → Nowhere (Passes (is_byte 47) name) 0 (length name) → folder_of name ≡ []
name_without_slash_has_empty_folder [] none = refl
name_without_slash_has_empty_folder (b ∷ name) none = ap (λ t. if t then b ∷ folder_of name else []) (bytes_found_nowhere_have_no_such_byte 47 (b ∷ name) none)

pub name_up_to_last_slash_is_folder : (name : List ℕ) (at : ℕ) → NoneAfter (Passes (is_byte 47) name) 0 (length name) at → Passes (is_byte 47) name at
    → take (at + 1) name ≡ folder_of name
name_up_to_last_slash_is_folder [] at none slash = absurd (omega (arith, none.high))
name_up_to_last_slash_is_folder (b ∷ name) zero none slash =
    let behind = name_without_slash_has_empty_folder name (λ k low high p. none.after (suc k) (omega arith) (omega (arith, high)) p) in
    sym (ap (λ t. if t then b ∷ folder_of name else []) (bytes_with_byte_at_index_have_it 47 (b ∷ name) zero (omega arith) slash) ∙ ap (λ ns. b ∷ ns) behind)
name_up_to_last_slash_is_folder (b ∷ name) (suc at) none slash =
    let later : NoneAfter (Passes (is_byte 47) name) 0 (length name) at =
    record {
      low = omega arith;
      high = omega (arith, none.high);
      after = λ k low high p. none.after (suc k) (omega (arith, low)) (omega (arith, high)) p;
    } in
    let here = bytes_with_byte_at_index_have_it 47 (b ∷ name) (suc at) (omega (arith, none.high)) slash in
    let count : suc (at + 1) ≡ suc at + 1 = omega arith in
    let inner : take (suc (at + 1)) (b ∷ name) ≡ b ∷ folder_of name = ap (λ ns. b ∷ ns) (name_up_to_last_slash_is_folder name at later slash) in
    sym (ap (λ n. take n (b ∷ name)) count) ∙ inner ∙ sym (ap (λ t. if t then b ∷ folder_of name else []) here)

-- ---- a name without the `/` at its end

and_with_true_is_itself : (t : Bool) → (t && true) ≡ t
and_with_true_is_itself true = refl
and_with_true_is_itself false = refl

and_is_associative : (t u v : Bool) → (t && (u && v)) ≡ ((t && u) && v)
and_is_associative true u v = refl
and_is_associative false u v = refl

all_slashes_with_last_byte_splits : (front : List ℕ) (b : ℕ) → list_all (λ c. c == 47) (front ++ b ∷ []) ≡ (list_all (λ c. c == 47) front && (b == 47))
all_slashes_with_last_byte_splits [] b = and_with_true_is_itself (b == 47)
all_slashes_with_last_byte_splits (c ∷ front) b = ap (λ t. (c == 47) && t) (all_slashes_with_last_byte_splits front b) ∙ and_is_associative (c == 47) (list_all (λ d. d == 47) front) (b == 47)

and_with_false_is_false : (t : Bool) → (t && false) ≡ false
and_with_false_is_false true = refl
and_with_false_is_false false = refl

pub trailing_slash_is_dropped : (front : List ℕ) (b : ℕ) → (b == 47) ≡ true → name_without_trailing_slashes (front ++ b ∷ []) ≡ name_without_trailing_slashes front
trailing_slash_is_dropped [] b slash = ap (λ t. if t && true then [] else b ∷ []) slash
trailing_slash_is_dropped (c ∷ front) b slash =
    let all : list_all (λ d. d == 47) (c ∷ front ++ b ∷ []) ≡ list_all (λ d. d == 47) (c ∷ front) =
    all_slashes_with_last_byte_splits (c ∷ front) b ∙ ap (λ t. list_all (λ d. d == 47) (c ∷ front) && t) slash ∙ and_with_true_is_itself (list_all (λ d. d == 47) (c ∷ front)) in
    ap (λ t. if t then [] else c ∷ name_without_trailing_slashes (front ++ b ∷ [])) all
    ∙ ap (λ ns. if list_all (λ d. d == 47) (c ∷ front) then [] else c ∷ ns) (trailing_slash_is_dropped front b slash)

pub trailing_byte_other_than_slash_stays : (front : List ℕ) (b : ℕ) → (b == 47) ≡ false → name_without_trailing_slashes (front ++ b ∷ []) ≡ front ++ b ∷ []
trailing_byte_other_than_slash_stays [] b other = ap (λ t. if t && true then [] else b ∷ []) other
trailing_byte_other_than_slash_stays (c ∷ front) b other =
    let none : list_all (λ d. d == 47) (c ∷ front ++ b ∷ []) ≡ false =
    all_slashes_with_last_byte_splits (c ∷ front) b ∙ ap (λ t. list_all (λ d. d == 47) (c ∷ front) && t) other ∙ and_with_false_is_false (list_all (λ d. d == 47) (c ∷ front)) in
    ap (λ t. if t then [] else c ∷ name_without_trailing_slashes (front ++ b ∷ [])) none ∙ ap (λ ns. c ∷ ns) (trailing_byte_other_than_slash_stays front b other)
