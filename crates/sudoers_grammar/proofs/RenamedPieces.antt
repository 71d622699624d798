-- Tokens that are read by a rule of the grammar are read by it again with another name.
use Rattle.std.proofs.Common.{◌≡◌, ◌⊎◌, ℕ, ◌-◌, Bool, List, [], ◌∷◌, ◌++◌, map, length, refl, sym, ap, subst, append-nil}
use Rattle.std.specs.Prelude.{◌==◌}
use Rattle.std.specs.List.{flat_map}
use Rattle.sudoers_grammar.specs.Piece.{TokenWithBytes, is_mark_of_byte}
use Rattle.sudoers_grammar.specs.Grammar.{IsMark, Many, MarkThenRule, Separated, Perhaps}
use Rattle.sudoers_grammar.specs.Renamed.{NamedAlias, AliasRenaming}
use Rattle.sudoers_text.specs.declared.token.TokenKind.TheVariants as kind

-- a name in a line replaced by another: where an offset lies then, and whether the line ends behind a token
pub record NameChange : Type 0 where
  pub old : NamedAlias
  pub fresh : List ℕ
  pub at : ℕ → ℕ
  pub last : TokenWithBytes → Bool

-- the same without its tokens
abbrev pub alias_renaming_of_change : NameChange → AliasRenaming
alias_renaming_of_change c = record { old = c.old; fresh = c.fresh; at = c.at }

abbrev pub piece_with_moved_offsets : NameChange → TokenWithBytes → TokenWithBytes
piece_with_moved_offsets c t = record { kind = t.kind; text = t.text; start = c.at t.start; stop = c.at t.stop; last = c.last t }

abbrev pub piece_with_new_name : NameChange → TokenWithBytes → TokenWithBytes
piece_with_new_name c t = record { kind = t.kind; text = c.fresh; start = c.at t.start; stop = c.at t.stop; last = c.last t }

-- Tokens up to a rest, and renamed ones up to what is left of them. At each of these offsets, in their order, the old name stands and
-- becomes the new one. Every other token is only moved.
pub data AreTokensRenamedUpToRest (c : NameChange) : List ℕ → List TokenWithBytes → List TokenWithBytes → List TokenWithBytes → List TokenWithBytes → Type 0 where
  done : (rest left : List TokenWithBytes) → AreTokensRenamedUpToRest c [] rest rest left left
  keep : (starts : List ℕ) (t : TokenWithBytes) (ts rest us left : List TokenWithBytes) → AreTokensRenamedUpToRest c starts ts rest us left
      → AreTokensRenamedUpToRest c starts (t ∷ ts) rest (piece_with_moved_offsets c t ∷ us) left
  swap : (start : ℕ) (starts : List ℕ) (t : TokenWithBytes) (ts rest us left : List TokenWithBytes) → t.kind ≡ kind.Word → t.text ≡ c.old.name
      → (start ≡ t.start) ⊎ (start ≡ t.stop - length c.old.name) → AreTokensRenamedUpToRest c starts ts rest us left
      → AreTokensRenamedUpToRest c (start ∷ starts) (t ∷ ts) rest (piece_with_new_name c t ∷ us) left

-- Where the second token stands directly behind the first, it does so then, and only there.
abbrev pub KeepsSecondTokenAdjacency : NameChange → List TokenWithBytes → Type 0
KeepsSecondTokenAdjacency c [] = Unit {0}
KeepsSecondTokenAdjacency c (t ∷ []) = Unit {0}
KeepsSecondTokenAdjacency c (t ∷ u ∷ ts) = (c.at u.start == c.at t.stop) ≡ (u.start == t.stop)

-- ---- one after another

-- New tokens are read by this rule up to what is left of them, and are the renamed ones.
pub record IsReadAfterRenaming {X : Type 0} (c : NameChange) (P : List TokenWithBytes → X → List TokenWithBytes → Type 0) (places : List ℕ) (ts : List TokenWithBytes) (y : X)
    (rest left : List TokenWithBytes) : Type 0 where
  pub new : List TokenWithBytes
  pub is : P new y left
  pub renames : AreTokensRenamedUpToRest c places ts rest new left

-- What this rule reads, it reads again in renamed tokens: renamed by g; s gives where the name stands in it.
abbrev pub IsRuleKeptByRenaming : (X : Type 0) → NameChange → (List TokenWithBytes → X → List TokenWithBytes → Type 0) → (X → X) → (X → List ℕ) → Type 0
IsRuleKeptByRenaming X c P g s = (ts rest left : List TokenWithBytes) (x : X) → P ts x rest → IsReadAfterRenaming c P (s x) ts (g x) rest left

pub renamings_of_adjacent_parts_are_joined : (c : NameChange) (ps qs : List ℕ) (a b d x y z : List TokenWithBytes) → AreTokensRenamedUpToRest c ps a b x y → AreTokensRenamedUpToRest c qs b d y z → AreTokensRenamedUpToRest c (ps ++ qs) a d x z
renamings_of_adjacent_parts_are_joined c ps qs a b d x y z (done rest left) more = more
renamings_of_adjacent_parts_are_joined c ps qs a b d x y z (keep places t ts rest us left r) more = keep (places ++ qs) t ts d us z (renamings_of_adjacent_parts_are_joined c places qs ts b d us y z r more)
renamings_of_adjacent_parts_are_joined c ps qs a b d x y z (swap place places t ts rest us left k n p r) more =
    swap place (places ++ qs) t ts d us z k n p (renamings_of_adjacent_parts_are_joined c places qs ts b d us y z r more)

-- where no name stands behind
pub renaming_without_later_names_is_joined : (c : NameChange) (ps : List ℕ) (a b d x y z : List TokenWithBytes) → AreTokensRenamedUpToRest c ps a b x y → AreTokensRenamedUpToRest c [] b d y z → AreTokensRenamedUpToRest c ps a d x z
renaming_without_later_names_is_joined c ps a b d x y z r more = subst (λ (qs : List ℕ). AreTokensRenamedUpToRest c qs a d x z) (append-nil ps) (renamings_of_adjacent_parts_are_joined c ps [] a b d x y z r more)

pub renaming_of_equal_tokens_is_same : (c : NameChange) (ps : List ℕ) (ts ss rest us left : List TokenWithBytes) → ts ≡ ss → AreTokensRenamedUpToRest c ps ss rest us left
    → AreTokensRenamedUpToRest c ps ts rest us left
renaming_of_equal_tokens_is_same c ps ts ss rest us left e r = subst (λ (t : List TokenWithBytes). AreTokensRenamedUpToRest c ps t rest us left) (sym e) r

pub renaming_keeps_many_rule : {X : Type 0} (c : NameChange) (P : List TokenWithBytes → X → List TokenWithBytes → Type 0) (g : X → X) (s : X → List ℕ) → IsRuleKeptByRenaming X c P g s
    → IsRuleKeptByRenaming (List X) c (Many P) (map g) (flat_map s)
renaming_keeps_many_rule c P g s turns ts rest left [] is = record { new = left; is = refl; renames = renaming_of_equal_tokens_is_same c [] ts rest rest left left is (done rest left) }
renaming_keeps_many_rule c P g s turns ts rest left (x ∷ xs) is =
    let others = renaming_keeps_many_rule c P g s turns is.0 rest left xs is.2 in
    let first = turns ts is.0 others.new x is.1 in
    record {
      new = first.new;
      is = (others.new, first.is, others.is);
      renames = renamings_of_adjacent_parts_are_joined c (s x) (flat_map s xs) ts is.0 rest first.new others.new left first.renames others.renames;
    }

pub moved_mark_is_mark : (c : NameChange) (b : ℕ) (t : TokenWithBytes) → IsMark b t → IsMark b (piece_with_moved_offsets c t)
unfolding is_mark_of_byte
moved_mark_is_mark c b t is = is

pub renaming_keeps_mark_then_rule : {X : Type 0} (c : NameChange) (b : ℕ) (P : List TokenWithBytes → X → List TokenWithBytes → Type 0) (g : X → X) (s : X → List ℕ) → IsRuleKeptByRenaming X c P g s
    → IsRuleKeptByRenaming X c (MarkThenRule b P) g s
renaming_keeps_mark_then_rule c b P g s turns ts rest left x is =
    let later = turns is.behind rest left x is.is in
    record {
      new = piece_with_moved_offsets c is.mark ∷ later.new;
      is = record { mark = piece_with_moved_offsets c is.mark; behind = later.new; split = refl; is_mark = moved_mark_is_mark c b is.mark is.is_mark; is = later.is };
      renames =
          renaming_of_equal_tokens_is_same c (s x) ts (is.mark ∷ is.behind) rest (piece_with_moved_offsets c is.mark ∷ later.new) left is.split
          (keep (s x) is.mark is.behind rest later.new left later.renames);
    }

pub renaming_keeps_separated_rule : {X : Type 0} (c : NameChange) (b : ℕ) (P : List TokenWithBytes → X → List TokenWithBytes → Type 0) (g : X → X) (s : X → List ℕ) → IsRuleKeptByRenaming X c P g s
    → IsRuleKeptByRenaming (List X) c (Separated b P) (map g) (flat_map s)
renaming_keeps_separated_rule c b P g s turns ts rest left [] is = absurd is
renaming_keeps_separated_rule c b P g s turns ts rest left (x ∷ xs) is =
    let others = renaming_keeps_many_rule c (MarkThenRule b P) g s (renaming_keeps_mark_then_rule c b P g s turns) is.0 rest left xs is.2 in
    let first = turns ts is.0 others.new x is.1 in
    record {
      new = first.new;
      is = (others.new, first.is, others.is);
      renames = renamings_of_adjacent_parts_are_joined c (s x) (flat_map s xs) ts is.0 rest first.new others.new left first.renames others.renames;
    }

pub renaming_keeps_perhaps_rule : {X : Type 0} (c : NameChange) (P : List TokenWithBytes → List X → List TokenWithBytes → Type 0) (g : X → X) (s : X → List ℕ)
    → IsRuleKeptByRenaming (List X) c P (map g) (flat_map s) → IsRuleKeptByRenaming (List X) c (Perhaps P) (map g) (flat_map s)
renaming_keeps_perhaps_rule c P g s turns ts rest left [] is = record {
  new = left;
  is = refl;
  renames = renaming_of_equal_tokens_is_same c [] ts rest rest left left is (done rest left);
}
renaming_keeps_perhaps_rule c P g s turns ts rest left (x ∷ xs) is =
    let all = turns ts rest left (x ∷ xs) is in
    record { new = all.new; is = all.is; renames = all.renames }

-- tokens that stand as they are, moved
pub front_of_moved_tokens_is_kept : (c : NameChange) (front : List TokenWithBytes) (ps : List ℕ) (ts rest us left : List TokenWithBytes) → AreTokensRenamedUpToRest c ps ts rest us left
    → AreTokensRenamedUpToRest c ps (front ++ ts) rest (map (piece_with_moved_offsets c) front ++ us) left
front_of_moved_tokens_is_kept c [] ps ts rest us left r = r
front_of_moved_tokens_is_kept c (t ∷ front) ps ts rest us left r =
    keep ps t (front ++ ts) rest (map (piece_with_moved_offsets c) front ++ us) left (front_of_moved_tokens_is_kept c front ps ts rest us left r)

-- ---- what has no names in it

map_of_identity_is_list : {X : Type 0} (xs : List X) → map (λ (x : X). x) xs ≡ xs
map_of_identity_is_list [] = refl
map_of_identity_is_list (x ∷ xs) = ap (λ ys. x ∷ ys) (map_of_identity_is_list xs)

-- without places
abbrev pub no_offsets_of_value : {X : Type 0} → X → List ℕ
no_offsets_of_value x = []

pub values_have_no_offsets : {X : Type 0} (xs : List X) → flat_map no_offsets_of_value xs ≡ []
values_have_no_offsets [] = refl
values_have_no_offsets (x ∷ xs) = values_have_no_offsets xs

-- A list of things without names is read as it was.
pub lists_without_names_are_read_again : {X : Type 0} (c : NameChange) (P : List TokenWithBytes → List X → List TokenWithBytes → Type 0)
    → IsRuleKeptByRenaming (List X) c P (map (λ (x : X). x)) (flat_map no_offsets_of_value) → IsRuleKeptByRenaming (List X) c P (λ (xs : List X). xs) (λ (xs : List X). [])
lists_without_names_are_read_again c P turns ts rest left xs is =
    let all = turns ts rest left xs is in
    record {
      new = all.new;
      is = subst (λ ys. P all.new ys left) (map_of_identity_is_list xs) all.is;
      renames = subst (λ ps. AreTokensRenamedUpToRest c ps ts rest all.new left) (values_have_no_offsets xs) all.renames;
    }
