-- Lists to which rows are appended.
use Rattle.sudoers_match_list.proofs.Common.{List, [], ap, append-nil, append_assoc, map, map-append, sym, ◌++◌, ◌∙◌, ◌∷◌, ◌≡◌}

-- One more row is what came next.
pub pushed_row_takes_next_value : {X Y : Type 0} (f : X → Y) (out new : List X) (v : X) (rest tail whole : List Y) → new ≡ out ++ v ∷ [] → rest ≡ f v ∷ tail
    → map f out ++ rest ≡ whole → map f new ++ tail ≡ whole
pushed_row_takes_next_value f out new v rest tail whole e next is =
    ap (λ xs. map f xs ++ tail) e ∙ ap (λ ys. ys ++ tail) (map-append f out (v ∷ [])) ∙ append_assoc (map f out) (f v ∷ []) tail
    ∙ ap (λ ys. map f out ++ ys) (sym next) ∙ is

-- More is appended, which is what came next.
pub appended_items_take_next_values : {X : Type 0} (new old some rest tail whole : List X) → new ≡ old ++ some → rest ≡ some ++ tail → old ++ rest ≡ whole → new ++ tail ≡ whole
appended_items_take_next_values new old some rest tail whole e next is =
    ap (λ xs. xs ++ tail) e ∙ append_assoc old some tail ∙ ap (λ xs. old ++ xs) (sym next) ∙ is

pub empty_rest_leaves_written_items : {X : Type 0} (old rest whole : List X) → rest ≡ [] → old ++ rest ≡ whole → old ≡ whole
empty_rest_leaves_written_items old rest whole e is = sym (append-nil old) ∙ ap (λ xs. old ++ xs) (sym e) ∙ is
