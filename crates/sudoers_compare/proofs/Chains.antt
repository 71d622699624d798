-- Rows that are next to each other, and what is found among them.
use Rattle.std.proofs.Common.{◌≡◌, ◌⊎◌, inl, inr, ℕ, zero, suc, ◌+◌, ◌-◌, ◌<◌, Bool, true, false, not, ◌&&◌, List, [], ◌∷◌, Option, Some, None, drop, length, if◌then◌else◌, nat_lt, refl, sym, ap, ap₂, subst, ◌∙◌, arith}
use Rattle.std.specs.Prelude.{map, slice_get, slice_index_or}
use Rattle.std.specs.List.{filter}
use Rattle.std.specs.Option.{is_some}
use Rattle.std.proofs.lemmas.Bool.{ltb-true, ltb-false, lt-ltb, le-ltb}
use Rattle.laws_compare.specs.Content.{FlatPrivilegeRow}
use Rattle.laws_compare.specs.Decided.{is_covering_row}
use Rattle.sudoers_compare.specs.declared.overruled.Overruling.{Overruling}
use Rattle.sudoers_compare.specs.Overruled.{covering_row_number}
use Rattle.sudoers_compare.specs.NextRows.{AreNextNumbers, first_passing_number, overruling_among_passing}
use Rattle.sudoers_compare.proofs.FoundRows.{nothing_is_no_item, one_item_is_the_other}

pub tail_begins_with_item : {X : Type 0} (xs : List X) (n : ℕ) (x : X) (rest : List X) → drop n xs ≡ x ∷ rest → (slice_get xs n ≡ Some x) × (drop (n + 1) xs ≡ rest)
tail_begins_with_item [] zero x rest e = absurd cc
tail_begins_with_item [] (suc n) x rest e = absurd cc
tail_begins_with_item (y ∷ xs) zero x rest e = (cc, cc)
tail_begins_with_item (y ∷ xs) (suc n) x rest e =
    let inner = tail_begins_with_item xs n x rest e in
    let further : suc n + 1 ≡ suc (n + 1) = omega (arith) in
    (inner.0, ap (λ (m : ℕ). drop m (y ∷ xs)) further ∙ inner.1)

pub tail_from_item : {X : Type 0} (xs : List X) (n : ℕ) (x : X) → slice_get xs n ≡ Some x → drop n xs ≡ x ∷ drop (n + 1) xs
tail_from_item [] n x e = absurd (nothing_is_no_item e)
tail_from_item (y ∷ xs) zero x e = ap (λ z. z ∷ xs) (one_item_is_the_other e)
tail_from_item (y ∷ xs) (suc n) x e =
    let further : suc (n + 1) ≡ suc n + 1 = omega (arith) in
    tail_from_item xs n x e ∙ ap (λ (m : ℕ). x ∷ drop m (y ∷ xs)) further

pub item_of_mapped_list_at : {X Y : Type 0} (f : X → Y) (xs : List X) (i : ℕ) (x : X) → i < length xs → slice_get (map f xs) i ≡ Some (f (slice_index_or xs i x))
item_of_mapped_list_at f [] i x below = absurd (omega (arith, below))
item_of_mapped_list_at f (y ∷ xs) zero x below = refl
item_of_mapped_list_at f (y ∷ xs) (suc i) x below = item_of_mapped_list_at f xs i x (omega (arith, below))

pub item_of_mapped_list : {X Y : Type 0} (f : X → Y) (xs : List X) (i : ℕ) (x : X) → i < length xs → x ≡ slice_index_or xs i x → slice_get (map f xs) i ≡ Some (f x)
item_of_mapped_list f xs i x below e = item_of_mapped_list_at f xs i x below ∙ ap (λ z. Some (f z)) (sym e)

pub mapped_item_stands_below_length : {X Y : Type 0} (f : X → Y) (xs : List X) (i : ℕ) (y : Y) → slice_get (map f xs) i ≡ Some y → i < length xs
mapped_item_stands_below_length f [] i y e = absurd (nothing_is_no_item e)
mapped_item_stands_below_length f (x ∷ xs) zero y e = omega (arith)
mapped_item_stands_below_length f (x ∷ xs) (suc i) y e = let inner = mapped_item_stands_below_length f xs i y e in omega (arith, inner)

pub true_or_false : (b : Bool) → (b ≡ true) ⊎ (b ≡ false)
true_or_false true = inl refl
true_or_false false = inr refl

abbrev pub the_overruling : Option ℕ → Bool → Overruling
the_overruling by left = record { by = by; are_rows_left_out = left }

-- ---- the next row that passes

-- The row with the number k is the first that passes of those that stand from n on.
record IsNextPassing (passes : FlatPrivilegeRow → Bool) (rows : List FlatPrivilegeRow) (n : ℕ) (here : List FlatPrivilegeRow) (k : ℕ) : Type 0 where
  later : FlatPrivilegeRow
  stands : slice_get rows k ≡ Some later
  pass : passes later ≡ true
  covering : (row : FlatPrivilegeRow) (most : ℕ) → covering_row_number passes row (suc most) n here
      ≡ (if is_covering_row later row then Some k else covering_row_number passes row most (k + 1) (drop (k + 1) rows))
  passing : length (filter passes here) ≡ suc (length (filter passes (drop (k + 1) rows)))

row_here_is_next : (passes : FlatPrivilegeRow → Bool) (rows : List FlatPrivilegeRow) (n : ℕ) (x : FlatPrivilegeRow) (here : List FlatPrivilegeRow) → drop n rows ≡ x ∷ here → passes x ≡ true
    → IsNextPassing passes rows n (x ∷ here) n
row_here_is_next passes rows n x here tail passed =
    let parts = tail_begins_with_item rows n x here tail in
    record {
      later = x;
      stands = parts.0;
      pass = passed;
      covering = λ row most.
          ap (λ (p : Bool). if p then (if is_covering_row x row then Some n else covering_row_number passes row most (n + 1) here) else covering_row_number passes row (suc most) (n + 1) here) passed
          ∙ ap (λ (rest : List FlatPrivilegeRow). if is_covering_row x row then Some n else covering_row_number passes row most (n + 1) rest) (sym parts.1);
      passing = ap (λ (p : Bool). length (if p then x ∷ filter passes here else filter passes here)) passed ∙ ap (λ (rest : List FlatPrivilegeRow). suc (length (filter passes rest))) (sym parts.1);
    }

row_further_is_next : (passes : FlatPrivilegeRow → Bool) (rows : List FlatPrivilegeRow) (n : ℕ) (x : FlatPrivilegeRow) (here : List FlatPrivilegeRow) (k : ℕ) → passes x ≡ false
    → IsNextPassing passes rows (n + 1) here k → IsNextPassing passes rows n (x ∷ here) k
row_further_is_next passes rows n x here k denied next =
    record {
      later = next.later;
      stands = next.stands;
      pass = next.pass;
      covering = λ row most.
          ap (λ (p : Bool). if p then (if is_covering_row x row then Some n else covering_row_number passes row most (n + 1) here) else covering_row_number passes row (suc most) (n + 1) here) denied
          ∙ next.covering row most;
      passing = ap (λ (p : Bool). length (if p then x ∷ filter passes here else filter passes here)) denied ∙ next.passing;
    }

first_passing_is_next : (passes : FlatPrivilegeRow → Bool) (rows : List FlatPrivilegeRow) (n : ℕ) (here : List FlatPrivilegeRow) (k : ℕ) → drop n rows ≡ here → first_passing_number passes n here ≡ Some k
    → IsNextPassing passes rows n here k
first_passing_is_next passes rows n [] k tail e = absurd (nothing_is_no_item e)
first_passing_is_next passes rows n (x ∷ here) k tail e = elim (true_or_false (passes x)) as (λ _. IsNextPassing passes rows n (x ∷ here) k) [
  | inl passed ↦
      let same = one_item_is_the_other (sym (ap (λ (p : Bool). if p then Some n else first_passing_number passes (n + 1) here) passed) ∙ e) in
      subst (IsNextPassing passes rows n (x ∷ here)) same (row_here_is_next passes rows n x here tail passed)
  | inr denied ↦ row_further_is_next passes rows n x here k denied
      (first_passing_is_next passes rows (n + 1) here k (tail_begins_with_item rows n x here tail).1
      (sym (ap (λ (p : Bool). if p then Some n else first_passing_number passes (n + 1) here) denied) ∙ e))
]

no_first_is_no_covering : (passes : FlatPrivilegeRow → Bool) (row : FlatPrivilegeRow) (most n : ℕ) (here : List FlatPrivilegeRow) → first_passing_number passes n here ≡ None
    → (covering_row_number passes row most n here ≡ None) × (filter passes here ≡ [])
no_first_is_no_covering passes row zero n [] e = (refl, refl)
no_first_is_no_covering passes row (suc most) n [] e = (refl, refl)
no_first_is_no_covering passes row most n (x ∷ here) e = elim (true_or_false (passes x)) as (λ _. (covering_row_number passes row most n (x ∷ here) ≡ None) × (filter passes (x ∷ here) ≡ [])) [
  | inl passed ↦ absurd (nothing_is_no_item (sym e ∙ ap (λ (p : Bool). if p then Some n else first_passing_number passes (n + 1) here) passed))
  | inr denied ↦
      let further = no_first_is_no_covering passes row most (n + 1) here (sym (ap (λ (p : Bool). if p then Some n else first_passing_number passes (n + 1) here) denied) ∙ e) in
      (no_covering_further passes row most n x here denied further.0, ap (λ (p : Bool). if p then x ∷ filter passes here else filter passes here) denied ∙ further.1)
]
  where
    no_covering_further : (passes : FlatPrivilegeRow → Bool) (row : FlatPrivilegeRow) (most n : ℕ) (x : FlatPrivilegeRow) (here : List FlatPrivilegeRow) → passes x ≡ false
        → covering_row_number passes row most (n + 1) here ≡ None → covering_row_number passes row most n (x ∷ here) ≡ None
    no_covering_further passes row zero n x here denied none = refl
    no_covering_further passes row (suc most) n x here denied none =
        ap (λ (p : Bool). if p then (if is_covering_row x row then Some n else covering_row_number passes row most (n + 1) here) else covering_row_number passes row (suc most) (n + 1) here) denied ∙ none

-- ---- what is found on a chain

and_false_is_false : (b : Bool) → (b && false) ≡ false
and_false_is_false true = refl
and_false_is_false false = refl

pub no_row_is_found_off_chain : (passes : FlatPrivilegeRow → Bool) (row : FlatPrivilegeRow) (most n : ℕ) (here : List FlatPrivilegeRow) → first_passing_number passes n here ≡ None
    → the_overruling None false ≡ overruling_among_passing passes row most n here
no_row_is_found_off_chain passes row most n here e =
    let none = no_first_is_no_covering passes row most n here e in
    let few : nat_lt most (length (filter passes here)) ≡ false = ap (λ (passing : List FlatPrivilegeRow). nat_lt most (length passing)) none.1 ∙ le-ltb most 0 (omega (arith)) in
    ap₂ the_overruling (sym none.0) (sym (ap (λ (b : Bool). not (is_some (covering_row_number passes row most n here)) && b) few ∙ and_false_is_false (not (is_some (covering_row_number passes row most n here)))))

pub rows_are_left_out_at_limit : (passes : FlatPrivilegeRow → Bool) (row : FlatPrivilegeRow) (rows : List FlatPrivilegeRow) (most n k : ℕ) → most ≡ 0 → first_passing_number passes n (drop n rows) ≡ Some k
    → the_overruling None true ≡ overruling_among_passing passes row most n (drop n rows)
rows_are_left_out_at_limit passes row rows most n k none e =
    let next = first_passing_is_next passes rows n (drop n rows) k refl e in
    subst (λ (m : ℕ). the_overruling None true ≡ overruling_among_passing passes row m n (drop n rows)) (sym none)
    (ap (the_overruling None) (sym (lt-ltb 0 (length (filter passes (drop n rows))) (omega (arith, next.passing)))))

pub row_on_chain_stands : (passes : FlatPrivilegeRow → Bool) (rows : List FlatPrivilegeRow) (n k : ℕ) → first_passing_number passes n (drop n rows) ≡ Some k
    → (later : FlatPrivilegeRow) × (slice_get rows k ≡ Some later)
row_on_chain_stands passes rows n k e = let next = first_passing_is_next passes rows n (drop n rows) k refl e in (next.later, next.stands)

pub covering_row_is_found : (passes : FlatPrivilegeRow → Bool) (row later : FlatPrivilegeRow) (rows : List FlatPrivilegeRow) (most n k : ℕ) → 0 < most → first_passing_number passes n (drop n rows) ≡ Some k
    → slice_get rows k ≡ Some later → is_covering_row later row ≡ true → the_overruling (Some k) false ≡ overruling_among_passing passes row most n (drop n rows)
covering_row_is_found passes row later rows zero n k some e stands covers = absurd (omega (arith, some))
covering_row_is_found passes row later rows (suc most) n k some e stands covers =
    let next = first_passing_is_next passes rows n (drop n rows) k refl e in
    let same : later ≡ next.later = one_item_is_the_other (sym stands ∙ next.stands) in
    let found : covering_row_number passes row (suc most) n (drop n rows) ≡ Some k = next.covering row most
    ∙ ap (λ (b : Bool). if b then Some k else covering_row_number passes row most (k + 1) (drop (k + 1) rows)) (ap (λ (r : FlatPrivilegeRow). is_covering_row r row) (sym same) ∙ covers) in
    ap (λ (by : Option ℕ). the_overruling by (not (is_some by) && nat_lt (suc most) (length (filter passes (drop n rows))))) (sym found)

one_fewer_of_one_fewer : (m l : ℕ) → nat_lt (suc m) (suc l) ≡ nat_lt m l
one_fewer_of_one_fewer m l = elim (true_or_false (nat_lt m l)) as (λ _. nat_lt (suc m) (suc l) ≡ nat_lt m l) [
  | inl passed ↦ lt-ltb (suc m) (suc l) (omega (arith, ltb-true m l passed)) ∙ sym passed
  | inr denied ↦ le-ltb (suc m) (suc l) (omega (arith, ltb-false m l denied)) ∙ sym denied
]

pub chain_goes_on : (passes : FlatPrivilegeRow → Bool) (row later : FlatPrivilegeRow) (rows : List FlatPrivilegeRow) (next_numbers : List (Option ℕ)) (most n k : ℕ) (next : Option ℕ) (found : Overruling) → 0 < most
    → AreNextNumbers passes rows next_numbers → first_passing_number passes n (drop n rows) ≡ Some k → slice_get rows k ≡ Some later → is_covering_row later row ≡ false
    → ((is : Option ℕ) → slice_get next_numbers k ≡ Some is → next ≡ is)
    → (next ≡ first_passing_number passes (k + 1) (drop (k + 1) rows) → found ≡ overruling_among_passing passes row (most - 1) (k + 1) (drop (k + 1) rows))
    → found ≡ overruling_among_passing passes row most n (drop n rows)
chain_goes_on passes row later rows next_numbers zero n k next found some are e stands denied is_next rest = absurd (omega (arith, some))
chain_goes_on passes row later rows next_numbers (suc most) n k next found some are e stands denied is_next rest =
    let first = first_passing_is_next passes rows n (drop n rows) k refl e in
    let same : later ≡ first.later = one_item_is_the_other (sym stands ∙ first.stands) in
    let is = rest (is_next (first_passing_number passes (k + 1) (drop (k + 1) rows)) (are k first.later first.stands first.pass)) in
    let less : suc most - 1 ≡ most = omega (arith) in
    let number : covering_row_number passes row (suc most) n (drop n rows) ≡ covering_row_number passes row most (k + 1) (drop (k + 1) rows) = first.covering row most
    ∙ ap (λ (b : Bool). if b then Some k else covering_row_number passes row most (k + 1) (drop (k + 1) rows)) (ap (λ (r : FlatPrivilegeRow). is_covering_row r row) (sym same) ∙ denied) in
    let many : nat_lt (suc most) (length (filter passes (drop n rows))) ≡ nat_lt most (length (filter passes (drop (k + 1) rows))) = ap (nat_lt (suc most)) first.passing ∙ one_fewer_of_one_fewer most (length (filter passes (drop (k + 1) rows))) in
    is ∙ ap (λ (m : ℕ). overruling_among_passing passes row m (k + 1) (drop (k + 1) rows)) less
    ∙ sym (ap₂ (λ by more. the_overruling by (not (is_some by) && more)) number many)

-- ---- a search along a chain

-- What is found among so many rows from here on is what is found among all.
pub record IsOnChain (passes : FlatPrivilegeRow → Bool) (rows : List FlatPrivilegeRow) (row : FlatPrivilegeRow) (most n : ℕ) (reached : Option ℕ) (left : ℕ) : Type 0 where
  pub from : ℕ
  pub stands : reached ≡ first_passing_number passes from (drop from rows)
  pub same : overruling_among_passing passes row left from (drop from rows) ≡ overruling_among_passing passes row most n (drop n rows)

pub chain_begins : (passes : FlatPrivilegeRow → Bool) (rows : List FlatPrivilegeRow) (row : FlatPrivilegeRow) (most n : ℕ) (start : Option ℕ) → start ≡ first_passing_number passes n (drop n rows)
    → IsOnChain passes rows row most n start most
chain_begins passes rows row most n start stands = record { from = n; stands = stands; same = refl }

pub chain_leads_on : (passes : FlatPrivilegeRow → Bool) (row later : FlatPrivilegeRow) (rows : List FlatPrivilegeRow) (next_numbers : List (Option ℕ)) (most n k left : ℕ) (next : Option ℕ)
    → IsOnChain passes rows row most n (Some k) left → 0 < left → AreNextNumbers passes rows next_numbers → slice_get rows k ≡ Some later → is_covering_row later row ≡ false
    → ((is : Option ℕ) → slice_get next_numbers k ≡ Some is → next ≡ is) → IsOnChain passes rows row most n next (left - 1)
chain_leads_on passes row later rows next_numbers most n k left next so_far some are stands denied is_next =
    let first = first_passing_is_next passes rows so_far.from (drop so_far.from rows) k refl (sym so_far.stands) in
    let behind = first_passing_number passes (k + 1) (drop (k + 1) rows) in
    record {
      from = k + 1;
      stands = is_next behind (are k first.later first.stands first.pass);
      same = chain_goes_on passes row later rows next_numbers left so_far.from k behind (overruling_among_passing passes row (left - 1) (k + 1) (drop (k + 1) rows)) some are (sym so_far.stands) stands denied
          (λ is e. one_item_is_the_other (sym (are k first.later first.stands first.pass) ∙ e)) (λ _. refl)
          ∙ so_far.same;
    }

pub chain_ends : (passes : FlatPrivilegeRow → Bool) (rows : List FlatPrivilegeRow) (row : FlatPrivilegeRow) (most n left : ℕ) (reached : Option ℕ) → IsOnChain passes rows row most n reached left → reached ≡ None
    → the_overruling None false ≡ overruling_among_passing passes row most n (drop n rows)
chain_ends passes rows row most n left reached so_far none =
    no_row_is_found_off_chain passes row left so_far.from (drop so_far.from rows) (sym so_far.stands ∙ none) ∙ so_far.same

pub chain_is_left : (passes : FlatPrivilegeRow → Bool) (rows : List FlatPrivilegeRow) (row : FlatPrivilegeRow) (most n k left : ℕ) → IsOnChain passes rows row most n (Some k) left → left ≡ 0
    → the_overruling None true ≡ overruling_among_passing passes row most n (drop n rows)
chain_is_left passes rows row most n k left so_far none = rows_are_left_out_at_limit passes row rows left so_far.from k none (sym so_far.stands) ∙ so_far.same

pub row_on_chain_covers : (passes : FlatPrivilegeRow → Bool) (row later : FlatPrivilegeRow) (rows : List FlatPrivilegeRow) (most n k left : ℕ) → IsOnChain passes rows row most n (Some k) left → 0 < left
    → slice_get rows k ≡ Some later → is_covering_row later row ≡ true → the_overruling (Some k) false ≡ overruling_among_passing passes row most n (drop n rows)
row_on_chain_covers passes row later rows most n k left so_far some stands covers = covering_row_is_found passes row later rows left so_far.from k some (sym so_far.stands) stands covers ∙ so_far.same

pub no_row_is_missing_on_chain : (passes : FlatPrivilegeRow → Bool) (rows : List FlatPrivilegeRow) (row : FlatPrivilegeRow) (most n k left : ℕ) → IsOnChain passes rows row most n (Some k) left
    → (later : FlatPrivilegeRow) × (slice_get rows k ≡ Some later)
no_row_is_missing_on_chain passes rows row most n k left so_far = row_on_chain_stands passes rows so_far.from k (sym so_far.stands)
