-- Which definitions have to be asked again.
use Rattle.std.proofs.Common.{drop, map, ◌≡◌, ◌⊎◌, ◌∙◌, ℕ, zero, suc, ◌+◌, ◌<◌, ◌&&◌, ◌||◌, not, Bool, true, false, nat_eq, List, [], ◌∷◌, ◌++◌, Option, Some, None, length, slice_get, slice_index_or, inl, inr, refl, sym, ap, ap₂, if◌then◌else◌, arith, eq-eqb, subst}
use Rattle.std.proofs.lemmas.Bool.{cases_eq}
use Rattle.std.proofs.lemmas.Option.{slice_get_within}
use Rattle.std.specs.List.{list_any, list_all}
use Rattle.std.specs.Str.{bytes_eq}
use Rattle.std.proofs.lemmas.Slice.Eq.{bytes_eq-Decides}
use Rattle.sudoers_grammar.specs.declared.node.Atom.{Atom}
use Rattle.sudoers_grammar.specs.declared.node.Atom.TheVariants as atom
use Rattle.sudoers_grammar.specs.Node.{Def, Member}
use Rattle.sudoers_names.specs.Numbers.{numbers_of_name}
use Rattle.sudoers_tree.specs.Line.{Line}
use Rattle.sudoers_plan.specs.declared.user_members.ListPart.{ListPart}
use Rattle.sudoers_plan.specs.declared.user_members.ListPart.TheVariants.{Any, All}
use Rattle.sudoers_plan.specs.Mentions.{AreMentionsListed, AreUnmarkedSettled, is_alias_atom_of_name, is_definition_settled, is_mention_of_name, names_with_definition, numbers_with_mentioning_definitions, numbers_with_mentions}
use Rattle.sudoers_plan.specs.User.{names_with_definitions_of_user, is_atom_of_user, is_list_of_user, is_name_of_user, is_user_alias_defined}

true_or_false : (b : Bool) → (b ≡ true) ⊎ (b ≡ false)
true_or_false true = inl refl
true_or_false false = inr refl

-- ---- lists of numbers

or_right : (a b : Bool) → b ≡ true → a || b ≡ true
or_right true b h = refl
or_right false b h = h

any_of_appended : {X : Type 0} (test : X → Bool) (xs ys : List X) → list_any test (xs ++ ys) ≡ list_any test xs || list_any test ys
any_of_appended test [] ys = refl
any_of_appended test (x ∷ xs) ys = elim (test x) as (λ t. t || list_any test (xs ++ ys) ≡ (t || list_any test xs) || list_any test ys) [ true ↦ refl | false ↦ any_of_appended test xs ys ]

any_stays : {X : Type 0} (test : X → Bool) (xs ys : List X) → list_any test xs ≡ true → list_any test (xs ++ ys) ≡ true
any_stays test xs ys h = any_of_appended test xs ys ∙ ap (λ b. b || list_any test ys) h

any_of_last : {X : Type 0} (test : X → Bool) (xs : List X) (x : X) → test x ≡ true → list_any test (xs ++ x ∷ []) ≡ true
any_of_last test xs x h = any_of_appended test xs (x ∷ []) ∙ or_right (list_any test xs) (test x || false) (ap (λ b. b || false) h)

-- a number that is listed stays listed
stays_if_added : (k number : ℕ) (b : Bool) (numbers : List ℕ) → list_any (nat_eq k) numbers ≡ true → list_any (nat_eq k) (if b then numbers ++ number ∷ [] else numbers) ≡ true
stays_if_added k number true numbers h = any_stays (nat_eq k) numbers (number ∷ []) h
stays_if_added k number false numbers h = h

stays_with_mentions : (name : List ℕ) (k number : ℕ) (ms : List Member) (numbers : List ℕ) → list_any (nat_eq k) numbers ≡ true → list_any (nat_eq k) (numbers_with_mentions name number ms numbers) ≡ true
stays_with_mentions name k number [] numbers h = h
stays_with_mentions name k number (m ∷ ms) numbers h = stays_with_mentions name k number ms _ (stays_if_added k number (is_mention_of_name name m) numbers h)

mentioning_number_is_listed : (name : List ℕ) (number : ℕ) (ms : List Member) (numbers : List ℕ) → list_any (is_mention_of_name name) ms ≡ true → list_any (nat_eq number) (numbers_with_mentions name number ms numbers) ≡ true
mentioning_number_is_listed name number [] numbers h = absurd (let impossible : false ≡ true = h in cc)
mentioning_number_is_listed name number (m ∷ ms) numbers h =
    elim (true_or_false (is_mention_of_name name m)) as (λ _. list_any (nat_eq number) (numbers_with_mentions name number (m ∷ ms) numbers) ≡ true) [
      | inl mentions ↦
          let now : list_any (nat_eq number) (if is_mention_of_name name m then numbers ++ number ∷ [] else numbers) ≡ true =
          ap (λ b. list_any (nat_eq number) (if b then numbers ++ number ∷ [] else numbers)) mentions ∙ any_of_last (nat_eq number) numbers number (eq-eqb number number refl) in
          stays_with_mentions name number number ms _ now
      | inr other ↦
          let behind : list_any (is_mention_of_name name) ms ≡ true = ap (λ b. b || list_any (is_mention_of_name name) ms) (sym other) ∙ h in
          mentioning_number_is_listed name number ms _ behind
    ]

stays_with_definitions : (name : List ℕ) (k n : ℕ) (ds : List Def) (numbers : List ℕ) → list_any (nat_eq k) numbers ≡ true → list_any (nat_eq k) (numbers_with_mentioning_definitions name n ds numbers) ≡ true
stays_with_definitions name k n [] numbers h = h
stays_with_definitions name k n (d ∷ ds) numbers h = stays_with_definitions name k (n + 1) ds _ (stays_with_mentions name k n d.members numbers h)

mentioning_definition_is_listed_from : (name : List ℕ) (n : ℕ) (ds : List Def) (numbers : List ℕ) (j : ℕ) (d : Def) → slice_get ds j ≡ Some d → list_any (is_mention_of_name name) d.members ≡ true
    → list_any (nat_eq (n + j)) (numbers_with_mentioning_definitions name n ds numbers) ≡ true
mentioning_definition_is_listed_from name n [] numbers j d stands mentions = absurd (let none : Option Def = None in let impossible : none ≡ Some d = stands in cc)
mentioning_definition_is_listed_from name n (x ∷ ds) numbers zero d stands mentions =
    let same : x ≡ d = cc in
    let here : n + 0 ≡ n = omega arith in
    let listed : list_any (nat_eq n) (numbers_with_mentions name n x.members numbers) ≡ true =
    mentioning_number_is_listed name n x.members numbers (ap (λ (y : Def). list_any (is_mention_of_name name) y.members) same ∙ mentions) in
    ap (λ k. list_any (nat_eq k) (numbers_with_mentioning_definitions name n (x ∷ ds) numbers)) here ∙ stays_with_definitions name n (n + 1) ds _ listed
mentioning_definition_is_listed_from name n (x ∷ ds) numbers (suc j) d stands mentions =
    let there : n + suc j ≡ n + 1 + j = omega arith in
    ap (λ k. list_any (nat_eq k) (numbers_with_mentioning_definitions name n (x ∷ ds) numbers)) there ∙ mentioning_definition_is_listed_from name (n + 1) ds _ j d stands mentions

-- What is listed for each name has the numbers of the definitions that mention it.
pub mentions_are_listed : (ds : List Def) (listed : List (List ℕ × List ℕ)) → ((name : List ℕ) → numbers_of_name name listed ≡ numbers_with_mentioning_definitions name 0 ds []) → AreMentionsListed ds listed
mentions_are_listed ds listed each j d name stands mentions =
    let here : 0 + j ≡ j = omega arith in
    ap (list_any (nat_eq j)) (each name) ∙ ap (λ k. list_any (nat_eq k) (numbers_with_mentioning_definitions name 0 ds [])) (sym here)
    ∙ mentioning_definition_is_listed_from name 0 ds [] j d stands mentions

-- ---- a name more

names_differ_either_way : (a b : List ℕ) → bytes_eq a b ≡ false → bytes_eq b a ≡ false
names_differ_either_way a b h =
    elim (true_or_false (bytes_eq b a)) as (λ _. bytes_eq b a ≡ false) [
      | inl same ↦ absurd (let alike : bytes_eq a b ≡ true = (bytes_eq-Decides a b).1 (sym ((bytes_eq-Decides b a).0 same)) in cc)
      | inr other ↦ other
    ]

or_false : (b : Bool) → b || false ≡ b
or_false true = refl
or_false false = refl

name_more_is_no_other : (names : List (List ℕ)) (name other : List ℕ) → bytes_eq name other ≡ false → list_any (bytes_eq other) (names ++ name ∷ []) ≡ list_any (bytes_eq other) names
name_more_is_no_other names name other h =
    any_of_appended (bytes_eq other) names (name ∷ []) ∙ ap (λ b. list_any (bytes_eq other) names || (b || false)) (names_differ_either_way name other h) ∙ or_false (list_any (bytes_eq other) names)

other_atom_stays : (user : Option (List ℕ)) (lines : List Line) (names : List (List ℕ)) (name : List ℕ) (a : Atom) → is_alias_atom_of_name name a ≡ false → is_atom_of_user user lines (names ++ name ∷ []) a ≡ is_atom_of_user user lines names a
other_atom_stays user lines names name (atom.Alias other) h = ap (λ b. b || (is_name_of_user user other && not (is_user_alias_defined lines other))) (name_more_is_no_other names name other h)
other_atom_stays user lines names name a h = refl

any_stays_alike : (name : List ℕ) (test was : Member → Bool) → ((m : Member) → is_mention_of_name name m ≡ false → test m ≡ was m) → (ms : List Member) → list_any (is_mention_of_name name) ms ≡ false → list_any test ms ≡ list_any was ms
any_stays_alike name test was same [] h = refl
any_stays_alike name test was same (m ∷ ms) h =
    let parts = no_part (is_mention_of_name name m) (list_any (is_mention_of_name name) ms) h in
    ap₂ (λ (a b : Bool). a || b) (same m parts.0) (any_stays_alike name test was same ms parts.1)
  where
    no_part : (a b : Bool) → a || b ≡ false → (a ≡ false) × (b ≡ false)
    no_part true b h = absurd (let impossible : true ≡ false = h in cc)
    no_part false b h = (refl, h)

all_stay_alike : (name : List ℕ) (test was : Member → Bool) → ((m : Member) → is_mention_of_name name m ≡ false → test m ≡ was m) → (ms : List Member) → list_any (is_mention_of_name name) ms ≡ false → list_all test ms ≡ list_all was ms
all_stay_alike name test was same [] h = refl
all_stay_alike name test was same (m ∷ ms) h =
    let parts = no_part (is_mention_of_name name m) (list_any (is_mention_of_name name) ms) h in
    ap₂ (λ (a b : Bool). a && b) (same m parts.0) (all_stay_alike name test was same ms parts.1)
  where
    no_part : (a b : Bool) → a || b ≡ false → (a ≡ false) × (b ≡ false)
    no_part true b h = absurd (let impossible : true ≡ false = h in cc)
    no_part false b h = (refl, h)

-- A list that does not mention the new name is the user's as before.
list_without_mention_stays : (part : ListPart) (user : List ℕ) (lines : List Line) (names : List (List ℕ)) (name : List ℕ) (ms : List Member) → list_any (is_mention_of_name name) ms ≡ false
    → is_list_of_user part user lines (names ++ name ∷ []) ms ≡ is_list_of_user part user lines names ms
list_without_mention_stays Any user lines names name ms h = any_stays_alike name _ _ (λ m unmentioned. other_atom_stays (Some user) lines names name m.atom unmentioned) ms h
list_without_mention_stays All user lines names name ms h =
    ap₂ (λ (a b : Bool). a && b) (any_stays_alike name _ _ (λ m unmentioned. other_atom_stays (Some user) lines names name m.atom unmentioned) ms h)
    (all_stay_alike name _ _ (λ m unmentioned. other_atom_stays (Some user) lines names name m.atom unmentioned) ms h)

-- ---- a definition is asked

and_not : (has his : Bool) → has || not his ≡ true → (has ≡ true) ⊎ (his ≡ false)
and_not true his h = inl refl
and_not false true h = absurd (let impossible : false ≡ true = h in cc)
and_not false false h = inr refl

settled_by_name : (has his : Bool) → has ≡ true → has || not his ≡ true
settled_by_name has his h = ap (λ b. b || not his) h

settled_by_list : (has his : Bool) → his ≡ false → has || not his ≡ true
settled_by_list has his h = or_right has (not his) (ap not h)

-- A settled definition leaves the names.
pub settled_definition_leaves_names : (part : ListPart) (user : List ℕ) (lines : List Line) (names : List (List ℕ)) (d : Def) → is_definition_settled part user lines names d ≡ true → names_with_definition part user lines names d ≡ names
settled_definition_leaves_names part user lines names d h =
    leaves (list_any (bytes_eq d.name) names) (is_list_of_user part user lines names d.members) h
  where
    leaves : (has his : Bool) → has || not his ≡ true → (if has then names else (if his then names ++ d.name ∷ [] else names)) ≡ names
    leaves true his h = refl
    leaves false true h = absurd (let impossible : false ≡ true = h in cc)
    leaves false false h = refl

-- A definition that is not settled adds its name.
unsettled_definition_adds_name : (part : ListPart) (user : List ℕ) (lines : List Line) (names : List (List ℕ)) (d : Def) → is_definition_settled part user lines names d ≡ false
    → names_with_definition part user lines names d ≡ names ++ d.name ∷ []
unsettled_definition_adds_name part user lines names d h =
    adds (list_any (bytes_eq d.name) names) (is_list_of_user part user lines names d.members) h
  where
    adds : (has his : Bool) → has || not his ≡ false → (if has then names else (if his then names ++ d.name ∷ [] else names)) ≡ names ++ d.name ∷ []
    adds true his h = absurd (let impossible : true ≡ false = h in cc)
    adds false true h = refl
    adds false false h = absurd (let impossible : true ≡ false = h in cc)

-- The definition of the new name is settled, and each that was and does not mention it.
settled_with_own_name : (part : ListPart) (user : List ℕ) (lines : List Line) (names : List (List ℕ)) (d : Def) → is_definition_settled part user lines (names ++ d.name ∷ []) d ≡ true
settled_with_own_name part user lines names d =
    settled_by_name _ (is_list_of_user part user lines (names ++ d.name ∷ []) d.members) (any_of_last (bytes_eq d.name) names d.name ((bytes_eq-Decides d.name d.name).1 refl))

settled_without_mention : (part : ListPart) (user : List ℕ) (lines : List Line) (names : List (List ℕ)) (name : List ℕ) (d : Def) → list_any (is_mention_of_name name) d.members ≡ false
    → is_definition_settled part user lines names d ≡ true → is_definition_settled part user lines (names ++ name ∷ []) d ≡ true
settled_without_mention part user lines names name d unmentioned h =
    elim (and_not (list_any (bytes_eq d.name) names) (is_list_of_user part user lines names d.members) h) as (λ _. is_definition_settled part user lines (names ++ name ∷ []) d ≡ true) [
      | inl has ↦ settled_by_name _ (is_list_of_user part user lines (names ++ name ∷ []) d.members) (any_stays (bytes_eq d.name) names (name ∷ []) has)
      | inr other ↦ settled_by_list (list_any (bytes_eq d.name) (names ++ name ∷ [])) _ (list_without_mention_stays part user lines names name d.members unmentioned ∙ other)
    ]

true_is_not_false : {b : Bool} → b ≡ true → b ≡ false → ⊥
true_is_not_false p q = cc

-- After the definition with the number i was asked, each definition without a mark is settled, if those that mention a new name were marked.
pub unmarked_are_settled_after_asking : (part : ListPart) (user : List ℕ) (lines : List Line) (ds : List Def) (listed : List (List ℕ × List ℕ)) (names more : List (List ℕ)) (was now : List Bool) (i : ℕ) (d : Def)
    → AreMentionsListed ds listed → slice_get ds i ≡ Some d → length was ≡ length ds → more ≡ names_with_definition part user lines names d
    → ((j : ℕ) → slice_index_or was j false ≡ true → (j ≡ i → ⊥) → slice_index_or now j false ≡ true)
    → (is_definition_settled part user lines names d ≡ false → (j : ℕ) → j < length was → list_any (nat_eq j) (numbers_of_name d.name listed) ≡ true → slice_index_or now j false ≡ true)
    → AreUnmarkedSettled part user lines names ds was → AreUnmarkedSettled part user lines more ds now
unmarked_are_settled_after_asking part user lines ds listed names more was now i d mentions stands each asked kept marked settled j e there unmarked =
    let goal : List (List ℕ) → Type 0 = λ ns. is_definition_settled part user lines ns e ≡ true in
    let within : j < length was = omega (arith, each, slice_get_within ds j e there) in
    let was_settled : (j ≡ i → ⊥) → is_definition_settled part user lines names e ≡ true = λ apart.
    elim (true_or_false (slice_index_or was j false)) as (λ _. is_definition_settled part user lines names e ≡ true) [
      | inl mark ↦ absurd (true_is_not_false (kept j mark apart) unmarked)
      | inr none ↦ settled j e there none
    ] in
    let own : j ≡ i → e ≡ d = λ same. (let found : Some e ≡ Some d = sym there ∙ ap (slice_get ds) same ∙ stands in cc) in
    subst goal (sym asked) (elim (true_or_false (is_definition_settled part user lines names d)) as (λ _. goal (names_with_definition part user lines names d)) [
      | inl done ↦ subst goal (sym (settled_definition_leaves_names part user lines names d done)) (elim (cases_eq j i) as (λ _. goal names) [
        | inl same ↦ ap (is_definition_settled part user lines names) (own same) ∙ done
        | inr apart ↦ was_settled apart
      ])
      | inr fresh ↦ subst goal (sym (unsettled_definition_adds_name part user lines names d fresh)) (elim (cases_eq j i) as (λ _. goal (names ++ d.name ∷ [])) [
        | inl same ↦ ap (is_definition_settled part user lines (names ++ d.name ∷ [])) (own same) ∙ settled_with_own_name part user lines names d
        | inr apart ↦ elim (true_or_false (list_any (is_mention_of_name d.name) e.members)) as (λ _. goal (names ++ d.name ∷ [])) [
          | inl mentioned ↦ absurd (true_is_not_false (marked fresh j within (mentions j e d.name there mentioned)) unmarked)
          | inr unmentioned ↦ settled_without_mention part user lines names d.name e unmentioned (was_settled apart)
        ]
      ])
    ])

-- A definition at the front is asked before those behind it.
pub front_definition_is_asked : {X : Type 0} (part : ListPart) (user : List ℕ) (lines : List Line) (names more : List (List ℕ)) (view : X → Def) (xs : List X) (i : ℕ) (d : Def) → slice_get (map view xs) i ≡ Some d
    → more ≡ names_with_definition part user lines names d
    → names_with_definitions_of_user part user lines more (map view (drop (i + 1) xs)) ≡ names_with_definitions_of_user part user lines names (map view (drop i xs))
front_definition_is_asked {X} part user lines names more view xs i d stands asked =
    ap (λ ns. names_with_definitions_of_user part user lines ns (map view (drop (i + 1) xs))) asked ∙ ap (names_with_definitions_of_user part user lines names) (sym (front xs i stands))
  where
    front : (xs : List X) (i : ℕ) → slice_get (map view xs) i ≡ Some d → map view (drop i xs) ≡ d ∷ map view (drop (i + 1) xs)
    front [] i h = absurd (let none : Option Def = None in let impossible : none ≡ Some d = h in cc)
    front (x ∷ xs) zero h = (let same : view x ≡ d = cc in ap (λ y. y ∷ map view xs) same)
    front (x ∷ xs) (suc i) h = front xs i h ∙ ap (λ k. d ∷ map view (drop k (x ∷ xs))) (let one : suc (i + 1) ≡ suc i + 1 = omega arith in one)

pub item_of_mapped_list_stands : {X Y : Type 0} (f : X → Y) (xs : List X) (i : ℕ) (none : X) → i < length xs → slice_get (map f xs) i ≡ Some (f (slice_index_or xs i none))
item_of_mapped_list_stands f [] i none h = absurd (omega (arith, h))
item_of_mapped_list_stands f (x ∷ xs) zero none h = refl
item_of_mapped_list_stands f (x ∷ xs) (suc i) none h = item_of_mapped_list_stands f xs i none (omega (arith, h))
