-- Tables that grew and are cut back are as they were.
use Rattle.std.proofs.Common.{◌≡◌, ℕ, List, [], ◌++◌, length, take, sym, ap, ◌∙◌, append-nil}
use Rattle.std.specs.Prelude.{Result, Ok, Err, OnErr}
use Rattle.std.proofs.Math.Seq.{take-append_seam}
use Rattle.sudoers_line_rows.specs.declared.rows.Tables.{Tables}
use Rattle.sudoers_line_rows.specs.declared.row_counts.TableRowCounts.{TableRowCounts}
use Rattle.sudoers_line_rows.specs.Counts.{row_counts_of_tables, IsTruncatedToCounts}
use Rattle.sudoers_line_rows.specs.Tables.{IsExtendedList, TablesHaveGrown}

cut_extended_list_is_original : {X : Type 0} (xs ys zs : List X) (n : ℕ) → IsExtendedList xs ys → n ≡ length xs → zs ≡ take n ys → zs ≡ xs
cut_extended_list_is_original xs ys zs n (more, e) count cut = cut ∙ ap (take n) e ∙ ap (λ k. take k (xs ++ more)) count ∙ take-append_seam xs more

original_extends_to_cut_list : {X : Type 0} (xs ys zs : List X) (n : ℕ) → IsExtendedList xs ys → n ≡ length xs → zs ≡ take n ys → IsExtendedList xs zs
original_extends_to_cut_list xs ys zs n g count cut = ([], cut_extended_list_is_original xs ys zs n g count cut ∙ sym (append-nil xs))

cut_list_extends_to_original : {X : Type 0} (xs ys zs : List X) (n : ℕ) → IsExtendedList xs ys → n ≡ length xs → zs ≡ take n ys → IsExtendedList zs xs
cut_list_extends_to_original xs ys zs n g count cut = ([], sym (cut_extended_list_is_original xs ys zs n g count cut) ∙ sym (append-nil zs))

pub on_err_holds_if_claim_holds : {A E : Type 0} {P : Type 0} (r : Result A E) → P → OnErr r P
on_err_holds_if_claim_holds (Ok x) p = tt
on_err_holds_if_claim_holds (Err e) p = p

module _ (t u v : Tables) (c : TableRowCounts) (counts : c ≡ row_counts_of_tables t) (g : TablesHaveGrown t u) (cut : IsTruncatedToCounts c u v) where
  pub cut_grown : TablesHaveGrown t v
  cut_grown = record {
    bytes = original_extends_to_cut_list _ _ _ _ g.bytes (ap (λ (k : TableRowCounts). k.bytes) counts) cut.bytes;
    digests = original_extends_to_cut_list _ _ _ _ g.digests (ap (λ (k : TableRowCounts). k.digests) counts) cut.digests;
    members = original_extends_to_cut_list _ _ _ _ g.members (ap (λ (k : TableRowCounts). k.members) counts) cut.members;
    options = original_extends_to_cut_list _ _ _ _ g.options (ap (λ (k : TableRowCounts). k.options) counts) cut.options;
    tags = original_extends_to_cut_list _ _ _ _ g.tags (ap (λ (k : TableRowCounts). k.tags) counts) cut.tags;
    commands = original_extends_to_cut_list _ _ _ _ g.commands (ap (λ (k : TableRowCounts). k.commands) counts) cut.commands;
    groups = original_extends_to_cut_list _ _ _ _ g.groups (ap (λ (k : TableRowCounts). k.groups) counts) cut.groups;
    defs = original_extends_to_cut_list _ _ _ _ g.defs (ap (λ (k : TableRowCounts). k.defs) counts) cut.defs;
    params = original_extends_to_cut_list _ _ _ _ g.params (ap (λ (k : TableRowCounts). k.params) counts) cut.params;
  }

  pub cut_back : TablesHaveGrown v t
  cut_back = record {
    bytes = cut_list_extends_to_original _ _ _ _ g.bytes (ap (λ (k : TableRowCounts). k.bytes) counts) cut.bytes;
    digests = cut_list_extends_to_original _ _ _ _ g.digests (ap (λ (k : TableRowCounts). k.digests) counts) cut.digests;
    members = cut_list_extends_to_original _ _ _ _ g.members (ap (λ (k : TableRowCounts). k.members) counts) cut.members;
    options = cut_list_extends_to_original _ _ _ _ g.options (ap (λ (k : TableRowCounts). k.options) counts) cut.options;
    tags = cut_list_extends_to_original _ _ _ _ g.tags (ap (λ (k : TableRowCounts). k.tags) counts) cut.tags;
    commands = cut_list_extends_to_original _ _ _ _ g.commands (ap (λ (k : TableRowCounts). k.commands) counts) cut.commands;
    groups = cut_list_extends_to_original _ _ _ _ g.groups (ap (λ (k : TableRowCounts). k.groups) counts) cut.groups;
    defs = cut_list_extends_to_original _ _ _ _ g.defs (ap (λ (k : TableRowCounts). k.defs) counts) cut.defs;
    params = cut_list_extends_to_original _ _ _ _ g.params (ap (λ (k : TableRowCounts). k.params) counts) cut.params;
  }
