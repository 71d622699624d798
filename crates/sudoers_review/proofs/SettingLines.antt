-- The lines on settings of runas_default.
use Rattle.std.proofs.Common.{◌≡◌, ℕ, zero, suc, ◌+◌, ◌<◌, ◌≤◌, false, List, [], ◌∷◌, ◌++◌, codes, drop, get_or, length, map, refl, sym, ap, ap₂, subst, ◌∙◌, arith, append-nil, append_assoc}
use Rattle.std.proofs.lemmas.List.{drop_more, drop_all}
use Rattle.sudoers_line_rows.specs.declared.rows.MemberRow.{MemberRow}
use Rattle.sudoers_line_rows.specs.declared.rows.Tables.{Tables}
use Rattle.sudoers_line_rows.specs.Tables.{member_in_tables}
use Rattle.sudoers_grammar.specs.declared.node.Kind.{Kind}
use Rattle.sudoers_cvt_spell.specs.Members.{printed_member_list}
use Rattle.sudoers_cvt_spell.specs.Parameters.{defaults_scope_mark}
use Rattle.laws_compare.specs.Content.{FlatRunasDefault}
use Rattle.sudoers_compare.specs.FlatSpecs.{signed_atoms_in_tables}
use Rattle.sudoers_review.specs.ChangedText.{printed_setting, AreSettingLines, no_setting_line, next_setting_line, IsSettingsText, same_settings, other_settings}
use Rattle.sudoers_review.specs.RowText.{members_of_signed_atoms}
use Rattle.sudoers_review.proofs.RowTexts.{members_are_printed_alike}

pub scope_text_is_appended : (kind : Kind) (t : Tables) (rows : List MemberRow) (o first new : List ℕ) → first ≡ o ++ defaults_scope_mark kind
    → new ≡ first ++ printed_member_list false kind (map (member_in_tables t) rows)
    → new ≡ o ++ (defaults_scope_mark kind ++ printed_member_list false kind (members_of_signed_atoms (signed_atoms_in_tables t rows)))
scope_text_is_appended kind t rows o first new begun e =
    e
    ∙ ap₂ (λ (front behind : List ℕ). front ++ behind) begun (sym (members_are_printed_alike false kind (map (member_in_tables t) rows)))
    ∙ append_assoc o (defaults_scope_mark kind) (printed_member_list false kind (members_of_signed_atoms (signed_atoms_in_tables t rows)))

pub setting_parts_are_grouped : (o a b c d : List ℕ) → (((o ++ a) ++ b) ++ c) ++ d ≡ o ++ (a ++ b ++ c ++ d)
setting_parts_are_grouped o a b c d = simp append_assoc

pub line_parts_are_grouped : (o a b c d e : List ℕ) → ((((o ++ a) ++ b) ++ c) ++ d) ++ e ≡ o ++ (a ++ b ++ c ++ d ++ e)
line_parts_are_grouped o a b c d e = simp append_assoc

-- ---- one line after another

-- Of these settings the lines stand behind the text so far.
abbrev pub AreLinesAppended : List ℕ → List FlatRunasDefault → List ℕ → List ℕ → Type 0
AreLinesAppended sign settings old new = (lines : List ℕ) × (new ≡ old ++ lines) × AreSettingLines sign settings lines

-- With the lines of the settings behind, all lines are appended.
abbrev pub AreLinesSoFar : List ℕ → List FlatRunasDefault → List FlatRunasDefault → List ℕ → List ℕ → Type 0
AreLinesSoFar sign all left old new = (rest : List ℕ) → AreSettingLines sign left rest → AreLinesAppended sign all old (new ++ rest)

pub no_line_so_far : (sign : List ℕ) (all : List FlatRunasDefault) (o : List ℕ) → AreLinesSoFar sign all all o o
no_line_so_far sign all o = λ (rest : List ℕ) (are : AreSettingLines sign all rest). (rest, refl, are)

pub one_more_setting_line : {X : Type 0} → (f : X → FlatRunasDefault) (settings : List X) (sign : List ℕ) (n : ℕ) (d : X) (old o next place : List ℕ) → n < length settings
    → next ≡ o ++ (sign ++ printed_setting (f (get_or settings n d)) ++ codes "  " ++ place ++ codes "\n")
    → AreLinesSoFar sign (map f settings) (map f (drop n settings)) old o → AreLinesSoFar sign (map f settings) (map f (drop (n + 1) settings)) old next
one_more_setting_line f settings sign n d old o next place within e so_far = λ (rest : List ℕ) (are : AreSettingLines sign (map f (drop (n + 1) settings)) rest).
    let setting : FlatRunasDefault = f (get_or settings n d) in
    let whole : List ℕ = sign ++ printed_setting setting ++ codes "  " ++ place ++ codes "\n" ++ rest in
    let split : map f (drop n settings) ≡ setting ∷ map f (drop (n + 1) settings) = ap (map f) (drop_more settings n d within) in
    let got = so_far whole (subst (λ (left : List FlatRunasDefault). AreSettingLines sign left whole) (sym split) (next_setting_line setting (map f (drop (n + 1) settings)) place rest are)) in
    let regroup : (a b c g h r : List ℕ) → (o ++ (a ++ b ++ c ++ g ++ h)) ++ r ≡ o ++ (a ++ b ++ c ++ g ++ h ++ r) = λ (a b c g h r : List ℕ). simp append_assoc in
    let same : next ++ rest ≡ o ++ whole = ap (λ (text : List ℕ). text ++ rest) e ∙ regroup sign (printed_setting setting) (codes "  ") place (codes "\n") rest in
    (got.0, same ∙ got.1, got.2)

pub all_setting_lines : {X : Type 0} → (f : X → FlatRunasDefault) (settings : List X) (sign : List ℕ) (n : ℕ) (old o : List ℕ) → length settings ≤ n
    → AreLinesSoFar sign (map f settings) (map f (drop n settings)) old o → AreLinesAppended sign (map f settings) old o
all_setting_lines f settings sign n old o end so_far =
    let none : [] ≡ map f (drop n settings) = sym (ap (map f) (drop_all n settings end)) in
    let got = so_far [] (subst (λ (left : List FlatRunasDefault). AreSettingLines sign left []) none no_setting_line) in
    (got.0, sym (append-nil o) ∙ got.1, got.2)

-- ---- the same settings

-- If the settings behind are the same, all are.
abbrev pub AreSameSoFar : List FlatRunasDefault → List FlatRunasDefault → List FlatRunasDefault → List FlatRunasDefault → Type 0
AreSameSoFar left left_too all all_too = left ≡ left_too → all ≡ all_too

pub one_more_setting_is_same : {X Y : Type 0} → (f : X → FlatRunasDefault) (g : Y → FlatRunasDefault) (xs : List X) (ys : List Y) (n : ℕ) (d : X) (e : Y) → n < length xs → n < length ys
    → f (get_or xs n d) ≡ g (get_or ys n e) → AreSameSoFar (map f (drop n xs)) (map g (drop n ys)) (map f xs) (map g ys)
    → AreSameSoFar (map f (drop (n + 1) xs)) (map g (drop (n + 1) ys)) (map f xs) (map g ys)
one_more_setting_is_same f g xs ys n d e within within_too same so_far = λ (rest : map f (drop (n + 1) xs) ≡ map g (drop (n + 1) ys)).
    so_far (ap (map f) (drop_more xs n d within) ∙ ap₂ (λ (one : FlatRunasDefault) (more : List FlatRunasDefault). one ∷ more) same rest ∙ sym (ap (map g) (drop_more ys n e within_too)))

pub all_settings_are_same : {X Y : Type 0} → (f : X → FlatRunasDefault) (g : Y → FlatRunasDefault) (xs : List X) (ys : List Y) (n : ℕ) → length xs ≤ n → length ys ≤ n
    → AreSameSoFar (map f (drop n xs)) (map g (drop n ys)) (map f xs) (map g ys) → map f xs ≡ map g ys
all_settings_are_same f g xs ys n end end_too so_far = so_far (ap (map f) (drop_all n xs end) ∙ sym (ap (map g) (drop_all n ys end_too)))

mapped_at : {X : Type 0} → (f : X → FlatRunasDefault) (xs : List X) (n : ℕ) (d : X) (e : FlatRunasDefault) → n < length xs → get_or (map f xs) n e ≡ f (get_or xs n d)
mapped_at f [] n d e within = absurd (omega (arith, within))
mapped_at f (x ∷ xs) zero d e within = refl
mapped_at f (x ∷ xs) (suc n) d e within = mapped_at f xs n d e (omega (arith, within))

pub same_settings_have_same_items : {X Y : Type 0} → (f : X → FlatRunasDefault) (g : Y → FlatRunasDefault) (xs : List X) (ys : List Y) (n : ℕ) (d : X) (e : Y) → n < length xs → n < length ys
    → map f xs ≡ map g ys → f (get_or xs n d) ≡ g (get_or ys n e)
same_settings_have_same_items f g xs ys n d e within within_too same =
    sym (mapped_at f xs n d (f d) within) ∙ ap (λ (list : List FlatRunasDefault). get_or list n (f d)) same ∙ mapped_at g ys n e (f d) within_too

-- ---- the text on both

pub other_setting_lines : (olds news : List FlatRunasDefault) (o first new : List ℕ) → (olds ≡ news → ⊥) → AreLinesAppended (codes "- ") olds o first
    → AreLinesAppended (codes "+ ") news first new → (text : List ℕ) × (new ≡ o ++ text) × IsSettingsText olds news text
other_setting_lines olds news o first new differ gone came =
    (gone.0 ++ came.0, came.1 ∙ ap (λ (text : List ℕ). text ++ came.0) gone.1 ∙ append_assoc o gone.0 came.0, other_settings gone.0 came.0 differ gone.2 came.2)

pub no_setting_lines : (olds news : List FlatRunasDefault) (o : List ℕ) → olds ≡ news → (text : List ℕ) × (o ≡ o ++ text) × IsSettingsText olds news text
no_setting_lines olds news o same = ([], sym (append-nil o), same_settings same)
