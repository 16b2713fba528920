-- What an image keeps to, by its numbers, and what it means once its header is written.
use Rattle.std.proofs.Common.{◌≡◌, ℕ, ◌+◌, ◌<◌, ◌≤◌, true, List, map, length, take, Ok, Option, sym, ap, ◌∙◌, arith}
use Rattle.std.proofs.lemmas.List.{length-map}
use Rattle.rows.specs.declared.fields.Fields.{Fields}
use Rattle.cashbook.specs.Calls.{Outcome, answer, after, when_done}
use Rattle.cashbook.specs.Counting.{Figures, figures_of, used, counted}
use Rattle.cashbook.specs.Meaning.{Meaning}
use Rattle.cashbook.specs.Questions.{latest}
use Rattle.cashbook.proofs.Counting.{figures_counted, left_by_call}
use Rattle.recordbytes.proofs.Each.{every_fewer}
use Rattle.rows.specs.Rows.{is_row}
use Rattle.rowbytes.specs.RowBytes.{row_bytes, row_read, is_row_bytes}
use Rattle.rowbytes.proofs.Rereading.{rows_read_back}
use Rattle.images.proofs.Written.{written_put_row}
use Rattle.images.specs.Headers.{row_offset, header}
use Rattle.images.specs.Images.{pieces, image_rows, are_written, put_row, put_header}
use Rattle.images.proofs.Pieces.{length_pieces, length_put_header, pieces_put_header, head_put_header, length_put_row, head_put_row, rows_fewer}

-- there are bytes for the rows, the header tells the numbers, and the rows in use are exactly as rows are written
abbrev pub Stands : Figures → List ℕ → Type 0
Stands f bytes = record {
  backed : 1 ≤ f.capacity → row_offset f.capacity ≤ length bytes;
  headed : 32 ≤ length bytes → take 32 bytes ≡ header f;
  exact : are_written (take (used f) (pieces f.capacity bytes)) ≡ true;
}

pub rows_long : (capacity : ℕ) (bytes : List ℕ) → length (image_rows capacity bytes) ≡ capacity
rows_long capacity bytes = length-map (pieces capacity bytes) row_read ∙ length_pieces capacity bytes

-- the first rows, found among pieces that are as many
pub rows_told :
    (account : List ℕ) (found : Option Fields) (capacity n first : ℕ) (bytes : List ℕ) → found ≡ latest account (image_rows n bytes) → n ≤ capacity → n ≡ first
    → found ≡ latest account (take first (image_rows capacity bytes))
rows_told account found capacity n first bytes told within same =
    told ∙ ap (latest account) (sym (rows_fewer capacity n bytes within) ∙ ap (λ k. take k (image_rows capacity bytes)) same)

module _ (g : Figures) (capacity : ℕ) (same : g.capacity ≡ capacity) (bytes after : List ℕ) (headed : after ≡ put_header g bytes) where
  pieces_same : pieces g.capacity after ≡ pieces capacity bytes
  pieces_same = ap (pieces g.capacity) headed ∙ (pieces_put_header g bytes g.capacity ∙ ap (λ k. pieces k bytes) same)

  long : length after ≡ length bytes
  long = ap length headed ∙ length_put_header g bytes

  pub stands : (1 ≤ capacity → row_offset capacity ≤ length bytes) → are_written (take (used g) (pieces capacity bytes)) ≡ true → Stands g after
  stands backed exact =
      let l = long in
      record {
        backed = λ some. (let room = backed (omega arith) in omega arith);
        headed = λ room. ap (take 32) headed ∙ head_put_header g bytes (omega arith);
        exact = ap are_written (ap (take (used g)) pieces_same) ∙ exact;
      }

  -- the header is no part of the meaning
  pub same_meaning : counted g (image_rows g.capacity after) ≡ counted g (image_rows capacity bytes)
  same_meaning = ap (λ (some : List (List ℕ)). counted g (map row_read some)) pieces_same

-- a row written behind those in use
pub stands_put : (f : Figures) (row : Fields) (bytes : List ℕ) → used f < f.capacity → is_row row ≡ true → Stands f bytes → Stands f (put_row (used f) (row_bytes row) bytes)
stands_put f row bytes free fine stood =
    let wide = rows_read_back.wide row fine in
    let backed = stood.backed (omega arith) in
    let long = length_put_row (used f) (row_bytes row) bytes (omega arith) wide in
    let more = written_put_row (used f) row bytes (omega arith) fine f.capacity free stood.exact in
    record {
      backed = λ some. omega arith;
      headed = λ room. head_put_row (used f) (row_bytes row) bytes (omega arith) wide ∙ stood.headed (omega arith);
      exact = every_fewer is_row_bytes (used f + 1) (used f) (pieces f.capacity (put_row (used f) (row_bytes row) bytes)) (omega arith) more;
    }

-- what a call that was done means and wrote, by the numbers that it took
pub told_by_call :
    {T : Type 0} (outcome : Outcome T) (x : T) (before : Meaning) (f g : Figures) (capacity : ℕ) (bytes after_bytes old : List ℕ) → f ≡ g → g.capacity ≡ capacity → used g ≤ capacity
    → after_bytes ≡ put_header g bytes → Ok x ≡ answer outcome → counted g (image_rows capacity bytes) ≡ after before outcome
    → (counted f (image_rows f.capacity after_bytes) ≡ after before outcome) × (after_bytes ≡ when_done outcome (put_header (figures_of (after before outcome)) bytes) old)
told_by_call outcome x before f g capacity bytes after_bytes old is same room headed answers leaves =
    let long = rows_long capacity bytes in
    let numbers : figures_of (after before outcome) ≡ g = ap figures_of (sym leaves) ∙ figures_counted g.capacity g.kept (image_rows capacity bytes) g.batch (omega arith) in (
      ap (λ (h : Figures). counted h (image_rows h.capacity after_bytes)) is ∙ (same_meaning g capacity same bytes after_bytes headed ∙ leaves),
      headed
          ∙ (ap (λ (h : Figures). put_header h bytes) (sym numbers)
          ∙ left_by_call outcome x (put_header (figures_of (after before outcome)) bytes) old answers),
    )
