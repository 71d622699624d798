-- The parts of users, one after another.
use Rattle.std.proofs.Common.{◌≡◌, ◌++◌, ◌∷◌, [], ◌||◌, Bool, true, false, List, ℕ, ◌≤◌, length, Option, Some, Ok, Err, IfOk, Result, ap, append-nil, drop, refl, slice_get, subst, suc, sym, take, zero, ◌+◌, ◌∙◌}
use Rattle.std.specs.List.{flat_map, list_any}
use Rattle.std.proofs.lemmas.Grind.{flat_map-append}
use Rattle.sudoers_tree.specs.Line.{Line}
use Rattle.sudoers_match_member.specs.declared.people_and_commands.Who.{Who}
use Rattle.sudoers_match_member.specs.declared.request.Request.{Request}
use Rattle.sudoers_match_list.specs.Alike.{IsPointwiseRelated}
use Rattle.sudoers_match.specs.Answer.{Answer, joined_arguments_limit, words_joined_with_spaces}
use Rattle.sudoers_match.proofs.Gathered.{list_from_index_is_element_and_rest}
use Rattle.sudoers_list_people.specs.declared.fault.WhoFault.{WhoFault}
use Rattle.sudoers_list_people.specs.People.{People}
use Rattle.sudoers_ask.specs.declared.question.CommandQuestion.{CommandQuestion}
use Rattle.sudoers_ask.specs.Outcome.{AnsweredRequest, IsAnswerToQuestion, IsOutcomeOfRequest, IsOutcomeOfWhoOrFault, IsUserOutcome, IsUserRequest}
use Rattle.sudoers_ask.specs.Users.{UserPart}

pub one_more_related : {X Y : Type 0} (R : X → Y → Type 0) (xs : List X) (ys : List Y) (x : X) (y : Y) → IsPointwiseRelated R xs ys → R x y → IsPointwiseRelated R (xs ++ x ∷ []) (ys ++ y ∷ [])
one_more_related R [] [] x y p r = (r, tt)
one_more_related R [] (b ∷ bs) x y p r = absurd p
one_more_related R (a ∷ xs) [] x y p r = absurd p
one_more_related R (a ∷ xs) (b ∷ ys) x y p r = (p.0, one_more_related R xs ys x y p.1 r)

abbrev pub text_of_part : UserPart → List ℕ
text_of_part part = part.text

abbrev pub is_part_allowed : UserPart → Bool
is_part_allowed part = part.allowed

pub one_more_text : (parts : List UserPart) (part : UserPart) → flat_map text_of_part (parts ++ part ∷ []) ≡ flat_map text_of_part parts ++ part.text
one_more_text parts part = flat_map-append text_of_part parts (part ∷ []) ∙ ap (λ ys. flat_map text_of_part parts ++ ys) (append-nil part.text)

or_false : (b : Bool) → b || false ≡ b
or_false true = refl
or_false false = refl

or_assoc : (a b c : Bool) → a || (b || c) ≡ (a || b) || c
or_assoc true b c = refl
or_assoc false b c = refl

pub one_more_allowed : (parts : List UserPart) (part : UserPart) → list_any is_part_allowed (parts ++ part ∷ []) ≡ list_any is_part_allowed parts || part.allowed
one_more_allowed [] part = or_false part.allowed
one_more_allowed (p ∷ parts) part =
    ap (λ b. p.allowed || b) (one_more_allowed parts part) ∙ or_assoc p.allowed (list_any is_part_allowed parts) part.allowed

-- a request that is answered is the outcome of its user
pub answered_request_is_outcome : (lines : List Line) (people : People) (q : CommandQuestion) (user : List ℕ) (r : Request) (default : List ℕ) (answer : Option Answer)
    → IsUserRequest lines people q user r default → length (words_joined_with_spaces r.args) ≤ joined_arguments_limit → IsAnswerToQuestion lines q r answer
    → IsUserOutcome lines people q user (Ok (record { request = r; default = default; answer = answer }))
answered_request_is_outcome lines people q user r default answer u short is =
    let told : AnsweredRequest = record { request = r; default = default; answer = answer } in
    subst (λ (w : Result Who WhoFault). IsOutcomeOfWhoOrFault lines people q user w (Ok told)) (sym u.who)
    (record {
      default = default;
      is_default = u.is_default;
      asked = subst (λ (asked : Result Request WhoFault). IsOutcomeOfRequest lines q default asked (Ok told)) (sym u.asks) (short, refl, refl, is);
    })

-- ---- results, and lists up to a place

pub ok_then : {X E : Type 0} (P Q : X → Type 0) (result : Result X E) → ((x : X) → P x → Q x) → IfOk result P → IfOk result Q
ok_then P Q (Ok x) next p = next x p
ok_then P Q (Err e) next p = tt

pub ok_then_both : {X E : Type 0} (P R Q : X → Type 0) (result : Result X E) → ((x : X) → P x → R x → Q x) → IfOk result P → IfOk result R → IfOk result Q
ok_then_both P R Q (Ok x) next p r = next x p r
ok_then_both P R Q (Err e) next p r = tt

append_of_take_and_drop : {X : Type 0} (i : ℕ) (xs : List X) → xs ≡ take i xs ++ drop i xs
append_of_take_and_drop zero xs = refl
append_of_take_and_drop (suc i) [] = refl
append_of_take_and_drop (suc i) (x ∷ xs) = ap (λ ys. x ∷ ys) (append_of_take_and_drop i xs)

pub list_parts_at : {X : Type 0} (xs : List X) (i : ℕ) (x : X) → slice_get xs i ≡ Some x → xs ≡ take i xs ++ x ∷ drop (i + 1) xs
list_parts_at xs i x at = append_of_take_and_drop i xs ∙ ap (λ ys. take i xs ++ ys) (list_from_index_is_element_and_rest xs i x at)
