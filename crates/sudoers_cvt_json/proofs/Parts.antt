-- The tokens of objects that are written part by part.
use Rattle.std.proofs.Common.{◌≡◌, ℕ, Bool, true, false, inl, inr, List, [], ◌∷◌, ◌++◌, map, flat_map, codes, refl, sym, ap, ◌∙◌, append_assoc}
use Rattle.std.specs.Prelude.{◌&&◌}
use Rattle.json.specs.Token.{Token, begin_object, end_object, key}
use Rattle.json.specs.Print.{print}
use Rattle.serde_json.specs.Data.{Data, object, no_members, member}
use Rattle.serde_json.specs.Written.{compact_text}
use Rattle.serde_json.proofs.Texts.{print-outline}
use Rattle.sudoers_cvt_rules.specs.declared.fault.CvtFault.{CvtFault}
use Rattle.sudoers_cvt_rules.specs.declared.rule.Rule.{Rule}
use Rattle.sudoers_cvt_rules.specs.declared.rule.Rule.TheVariants.{Defaults, Def, Spec}
use Rattle.sudoers_cvt_rules.specs.Rule.{node_of_rule_view}
use Rattle.sudoers_cvt_rules.specs.Rules.{Rules}
use Rattle.sudoers_cvt_json.specs.Value.{json_entries_of_node, array_value_of, rules_object_value}
use Rattle.sudoers_cvt_json.specs.internal.Built.{IsJsonFault, are_values_unicode, rule_object_value, tokens_of_value}
use Rattle.sudoers_cvt_json.specs.Unicode.{are_texts_of_value_unicode}

-- A fault of a part is one of the whole.
pub fault_of_part_is_fault_of_whole : (part whole : Bool) (fault : CvtFault) → (part ≡ false → whole ≡ false) → IsJsonFault part fault → IsJsonFault whole fault
fault_of_part_is_fault_of_whole part whole fault then (inl memory) = inl memory
fault_of_part_is_fault_of_whole part whole fault then (inr bad) = inr (bad.0, then bad.1)

-- ---- objects

pub object_of_two_members_is_written : (o : List Token) (k l : List ℕ) (d e : Data)
    → (((((o ++ begin_object ∷ []) ++ key k ∷ []) ++ tokens_of_value d) ++ key l ∷ []) ++ tokens_of_value e) ++ end_object ∷ []
    ≡ o ++ tokens_of_value (object (member k d (member l e no_members)))
object_of_two_members_is_written o k l d e = simp append_assoc

pub object_of_three_members_is_written : (o : List Token) (k l m : List ℕ) (d e f : Data)
    → (((((((o ++ begin_object ∷ []) ++ key k ∷ []) ++ tokens_of_value d) ++ key l ∷ []) ++ tokens_of_value e) ++ key m ∷ []) ++ tokens_of_value f) ++ end_object ∷ []
    ≡ o ++ tokens_of_value (object (member k d (member l e (member m f no_members))))
object_of_three_members_is_written o k l m d e f = simp append_assoc

pub first_half_of_object_is_written : (o : List Token) (k l : List ℕ) (d e : Data)
    → ((((o ++ begin_object ∷ []) ++ key k ∷ []) ++ tokens_of_value d) ++ key l ∷ []) ++ tokens_of_value e
    ≡ o ++ (begin_object ∷ key k ∷ (tokens_of_value d ++ key l ∷ tokens_of_value e))
first_half_of_object_is_written o k l d e = simp append_assoc

pub second_half_of_object_is_written : (o : List Token) (k l : List ℕ) (d e : Data)
    → ((((o ++ key k ∷ []) ++ tokens_of_value d) ++ key l ∷ []) ++ tokens_of_value e) ++ end_object ∷ []
    ≡ o ++ (key k ∷ (tokens_of_value d ++ key l ∷ (tokens_of_value e ++ end_object ∷ [])))
second_half_of_object_is_written o k l d e = simp append_assoc

-- ---- texts that are not UTF-8

false_conjunct_is_false : (a b : Bool) → a ≡ false → a && b ≡ false
false_conjunct_is_false false b e = refl
false_conjunct_is_false true b e = absurd (let clash : false ≡ true = sym e in cc)

-- The first of the values that are left has such a text, so one of all has.
pub first_value_left_makes_all_false : (d : Data) (ds left : List Data) (all : Bool) → left ≡ d ∷ ds → are_values_unicode left ≡ all → are_texts_of_value_unicode d ≡ false → all ≡ false
first_value_left_makes_all_false d ds left all e so_far bad =
    sym so_far ∙ ap are_values_unicode e ∙ false_conjunct_is_false (are_texts_of_value_unicode d) (are_values_unicode ds) bad

pub fault_of_first_value_left_is_of_all : (d : Data) (ds left : List Data) (all : Bool) (fault : CvtFault) → left ≡ d ∷ ds → are_values_unicode left ≡ all
    → IsJsonFault (are_texts_of_value_unicode d) fault → IsJsonFault all fault
fault_of_first_value_left_is_of_all d ds left all fault e so_far is =
    fault_of_part_is_fault_of_whole (are_texts_of_value_unicode d) all fault (λ bad. first_value_left_makes_all_false d ds left all e so_far bad) is

pub true_halves_are_true : (a b c d : Bool) → a && b ≡ true → c && d ≡ true → a && (b && (c && (d && true))) ≡ true
true_halves_are_true true true true true e f = refl
true_halves_are_true false b c d e f = absurd (let clash : false ≡ true = e in cc)
true_halves_are_true true false c d e f = absurd (let clash : false ≡ true = e in cc)
true_halves_are_true true true false d e f = absurd (let clash : false ≡ true = f in cc)
true_halves_are_true true true true false e f = absurd (let clash : false ≡ true = f in cc)

pub false_first_half_makes_all_false : (a b c d : Bool) → a && b ≡ false → a && (b && (c && (d && true))) ≡ false
false_first_half_makes_all_false false b c d e = refl
false_first_half_makes_all_false true false c d e = refl
false_first_half_makes_all_false true true c d e = absurd (let clash : false ≡ true = sym e in cc)

pub false_second_half_makes_all_false : (a b c d : Bool) → c && d ≡ false → a && (b && (c && (d && true))) ≡ false
false_second_half_makes_all_false false b c d e = refl
false_second_half_makes_all_false true false c d e = refl
false_second_half_makes_all_false true true false d e = refl
false_second_half_makes_all_false true true true false e = refl
false_second_half_makes_all_false true true true true e = absurd (let clash : false ≡ true = sym e in cc)

-- ---- the text

-- What is printed of the tokens of a value is its text.
pub printed_tokens_are_text : (before text : List ℕ) (tokens : List Token) (v : Data) → text ≡ before ++ print tokens → before ≡ [] → tokens ≡ tokens_of_value v → text ≡ compact_text v
printed_tokens_are_text before text tokens v e none is = e ∙ ap (λ (b : List ℕ). b ++ print tokens) none ∙ ap print is ∙ print-outline v

-- ---- rules

abbrev pub object_of_rule_arrays : List Data → List Data → List Data → Data
object_of_rule_arrays a d s =
    object (member (codes "aliases") (array_value_of a) (member (codes "defaults") (array_value_of d) (member (codes "specs") (array_value_of s) no_members)))

pub entries_of_rule_views_are_rule_objects : (rules : List Rule) → flat_map json_entries_of_node (map node_of_rule_view rules) ≡ map rule_object_value rules
entries_of_rule_views_are_rule_objects [] = refl
entries_of_rule_views_are_rule_objects (Defaults scope params ∷ rules) = ap (λ ds. rule_object_value (Defaults scope params) ∷ ds) (entries_of_rule_views_are_rule_objects rules)
entries_of_rule_views_are_rule_objects (Def kind def ∷ rules) = ap (λ ds. rule_object_value (Def kind def) ∷ ds) (entries_of_rule_views_are_rule_objects rules)
entries_of_rule_views_are_rule_objects (Spec users groups ∷ rules) = ap (λ ds. rule_object_value (Spec users groups) ∷ ds) (entries_of_rule_views_are_rule_objects rules)

pub object_of_rules_is_of_rule_views : (r : Rules) (defs defaults specs : List Rule) → map node_of_rule_view defs ≡ r.defs → map node_of_rule_view defaults ≡ r.defaults → map node_of_rule_view specs ≡ r.specs
    → rules_object_value r ≡ object_of_rule_arrays (map rule_object_value defs) (map rule_object_value defaults) (map rule_object_value specs)
object_of_rules_is_of_rule_views r defs defaults specs e f g =
    ap (λ ns. object_of_rule_arrays (flat_map json_entries_of_node ns) (flat_map json_entries_of_node r.defaults) (flat_map json_entries_of_node r.specs)) (sym e)
    ∙ ap (λ ns. object_of_rule_arrays (flat_map json_entries_of_node (map node_of_rule_view defs)) (flat_map json_entries_of_node ns) (flat_map json_entries_of_node r.specs)) (sym f)
    ∙ ap (λ ns. object_of_rule_arrays (flat_map json_entries_of_node (map node_of_rule_view defs)) (flat_map json_entries_of_node (map node_of_rule_view defaults)) (flat_map json_entries_of_node ns)) (sym g)
    ∙ ap (λ ds. object_of_rule_arrays ds (flat_map json_entries_of_node (map node_of_rule_view defaults)) (flat_map json_entries_of_node (map node_of_rule_view specs))) (entries_of_rule_views_are_rule_objects defs)
    ∙ ap (λ ds. object_of_rule_arrays (map rule_object_value defs) ds (flat_map json_entries_of_node (map node_of_rule_view specs))) (entries_of_rule_views_are_rule_objects defaults)
    ∙ ap (λ ds. object_of_rule_arrays (map rule_object_value defs) (map rule_object_value defaults) ds) (entries_of_rule_views_are_rule_objects specs)

pub three_true_values_are_all_true : (a b c : Bool) → a ≡ true → b ≡ true → c ≡ true → a && (b && (c && true)) ≡ true
three_true_values_are_all_true a b c e f g = rw (e, f, g)

pub false_first_value_makes_all_false : (a b c : Bool) → a ≡ false → a && (b && (c && true)) ≡ false
false_first_value_makes_all_false a b c e = rw e

pub false_second_value_makes_all_false : (a b c : Bool) → b ≡ false → a && (b && (c && true)) ≡ false
false_second_value_makes_all_false true b c e = rw e
false_second_value_makes_all_false false b c e = refl

pub false_third_value_makes_all_false : (a b c : Bool) → c ≡ false → a && (b && (c && true)) ≡ false
false_third_value_makes_all_false true true c e = rw e
false_third_value_makes_all_false true false c e = refl
false_third_value_makes_all_false false b c e = refl
