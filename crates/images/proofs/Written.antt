-- Pieces that are exactly the bytes of rows.
use Rattle.std.proofs.Common.{◌≡◌, ℕ, zero, suc, ◌+◌, ◌*◌, ◌<◌, ◌≤◌, true, List, [], ◌∷◌, ◌++◌, map, length, take, drop, set, Option, sym, refl, ap, ◌∙◌, arith, take-add}
use Rattle.std.proofs.lemmas.List.{length-map, take_at, drop_at, take-map, take_all, map-set, append_assoc}
use Rattle.std.proofs.lemmas.Bool.{and_parts, and_from}
use Rattle.recordbytes.proofs.Each.{every_at, every_fewer, every_more}
use Rattle.rows.specs.Rows.{is_row}
use Rattle.rows.specs.declared.fields.Fields.{Fields}
use Rattle.cashbook.specs.Counting.{figure, figures_of, used, counted}
use Rattle.cashbook.specs.Meaning.{Meaning, all_rows, are_rows}
use Rattle.cashbook.specs.Sounding.{all_counted}
use Rattle.cashbook.proofs.Counting.{figures_counted}
use Rattle.recordbytes.specs.Joins.{joined}
use Rattle.rowbytes.specs.RowBytes.{row_bytes, row_read, is_row_bytes}
use Rattle.rowbytes.proofs.Rereading.{rows_read_back}
use Rattle.images.specs.Headers.{row_offset, header}
use Rattle.images.specs.Images.{cut, pieces, piece, image_rows, are_written, image_of, Exact, put_row, ImagesReadBack}
use Rattle.images.proofs.Pieces.{length_header, length_pieces, piece_at, pieces_fewer, pieces_put_row}

-- they are read as rows
written_rows : (some : List (List ℕ)) → are_written some ≡ true → are_rows (map row_read some) ≡ true
written_rows [] t = refl
written_rows (piece ∷ rest) t =
    let h = and_parts (is_row_bytes piece) (are_written rest) t in
    and_from (is_row (row_read piece)) (are_rows (map row_read rest)) (rows_read_back.of_a_row piece h.0).0 (written_rows rest h.1)

pub image_rows_are_rows : (n capacity : ℕ) (bytes : List ℕ) → are_written (take n (pieces capacity bytes)) ≡ true → are_rows (take n (image_rows capacity bytes)) ≡ true
image_rows_are_rows n capacity bytes t = ap are_rows (take-map row_read n (pieces capacity bytes)) ∙ written_rows (take n (pieces capacity bytes)) t

-- what they write again are the bytes that were cut
cut_written : (n capacity : ℕ) (bytes : List ℕ) → n ≤ capacity → are_written (take n (cut capacity bytes)) ≡ true → joined (map row_bytes (take n (map row_read (cut capacity bytes)))) ≡ take (n * 256) bytes
unfolding cut
cut_written zero capacity bytes less t = refl
cut_written (suc n) zero bytes less t = absurd (omega arith)
cut_written (suc n) (suc capacity) bytes less t =
    let h = and_parts (is_row_bytes (take 256 bytes)) (are_written (take n (cut capacity (drop 256 bytes)))) t in
    let first = (rows_read_back.of_a_row (take 256 bytes) h.0).1 in
    let rest = cut_written n capacity (drop 256 bytes) (omega arith) h.1 in
    let whole : suc n * 256 ≡ 256 + n * 256 = omega arith in
    ap (λ xs. xs ++ joined (map row_bytes (take n (map row_read (cut capacity (drop 256 bytes)))))) first
    ∙ (ap (λ xs. take 256 bytes ++ xs) rest ∙ sym (ap (λ k. take k bytes) whole ∙ take-add 256 (n * 256) bytes))

-- as much as a front has is that front
take_as_long : (n : ℕ) (bytes : List ℕ) → take (length (take n bytes)) bytes ≡ take n bytes
take_as_long zero bytes = refl
take_as_long (suc n) [] = refl
take_as_long (suc n) (x ∷ bytes) = ap (λ rest. x ∷ rest) (take_as_long n bytes)

-- an image is exactly the bytes of its rows in use, behind its header
module _ (capacity kept : ℕ) (batch : Option ℕ) (bytes : List ℕ) (room : used (figure capacity kept batch) ≤ capacity) where
  all : ℕ
  all = used (figure capacity kept batch)

  abbrev meant : Meaning
  meant = counted (figure capacity kept batch) (image_rows capacity bytes)

  within : used (figure capacity kept batch) ≤ length (image_rows capacity bytes)
  within = omega (arith, length-map (pieces capacity bytes) row_read, length_pieces capacity bytes)

  whole : take 32 bytes ≡ header (figure capacity kept batch) → are_written (take all (pieces capacity bytes)) ≡ true → take (row_offset all) bytes ≡ image_of meant
  unfolding all pieces
  whole head t =
      take-add 32 (all * 256) bytes
      ∙ (ap (λ xs. xs ++ take (all * 256) (drop 32 bytes)) (head ∙ ap header (sym (figures_counted capacity kept (image_rows capacity bytes) batch within)))
      ∙ ap (λ xs. header (figures_of meant) ++ xs) (sym (cut_written all capacity (drop 32 bytes) room t) ∙ ap (λ (rows : List Fields). joined (map row_bytes rows)) (sym (all_counted capacity kept (image_rows capacity bytes) batch))))

  -- so bytes that keep to their numbers are exact
  pub image_exact : (32 ≤ length bytes → take 32 bytes ≡ header (figure capacity kept batch)) → are_written (take (used (figure capacity kept batch)) (pieces capacity bytes)) ≡ true → Exact meant bytes
  unfolding all
  image_exact headed t enough = let w = whole (headed enough) t in ap (λ xs. take (length xs) bytes) (sym w) ∙ (take_as_long (row_offset all) bytes ∙ w)

-- rows that were written are read back
cut_joined : (rows : List Fields) (behind : List ℕ) → are_rows rows ≡ true → map row_read (cut (length rows) (joined (map row_bytes rows) ++ behind)) ≡ rows
unfolding cut
cut_joined [] behind t = refl
cut_joined (row ∷ rows) behind t =
    let h = and_parts (is_row row) (are_rows rows) t in
    let rest : List ℕ = joined (map row_bytes rows) ++ behind in
    let wide = rows_read_back.wide row h.0 in
    let whole : (row_bytes row ++ joined (map row_bytes rows)) ++ behind ≡ row_bytes row ++ rest = append_assoc (row_bytes row) (joined (map row_bytes rows)) behind in
    let first : row_read (take 256 (row_bytes row ++ rest)) ≡ row = ap row_read (take_at (row_bytes row) rest 256 wide) ∙ rows_read_back.read_back row h.0 in
    let others : map row_read (cut (length rows) (drop 256 (row_bytes row ++ rest))) ≡ rows = ap (λ xs. map row_read (cut (length rows) xs)) (drop_at (row_bytes row) rest 256 wide) ∙ cut_joined rows behind h.1 in
    ap (λ xs. row_read (take 256 xs) ∷ map row_read (cut (length rows) (drop 256 xs))) whole ∙ (ap (λ x. x ∷ map row_read (cut (length rows) (drop 256 (row_bytes row ++ rest)))) first ∙ ap (λ xs. row ∷ xs) others)

pub images_read_back : ImagesReadBack
unfolding pieces
images_read_back b behind t =
    let rows : List Fields = all_rows b in
    let head : List ℕ = header (figures_of b) in
    ap (λ xs. map row_read (cut (length rows) xs)) (ap (drop 32) (append_assoc head (joined (map row_bytes rows)) behind) ∙ drop_at head (joined (map row_bytes rows) ++ behind) 32 (length_header (figures_of b))) ∙ cut_joined rows behind t

-- one piece among them
pub piece_written : (n i : ℕ) (bytes : List ℕ) → i < n → are_written (pieces n bytes) ≡ true → is_row_bytes (piece i bytes) ≡ true
piece_written n i bytes inside t =
    let long = length_pieces n bytes in
    sym (ap is_row_bytes (piece_at n i bytes [] inside)) ∙ every_at is_row_bytes n i (pieces n bytes) [] inside (omega arith) (ap are_written (take_all n (pieces n bytes) (omega arith)) ∙ t)

-- the first of more pieces that are written
pub first_written : (capacity all n : ℕ) (bytes : List ℕ) → n ≤ all → all ≤ capacity → are_written (take all (pieces capacity bytes)) ≡ true → are_written (pieces n bytes) ≡ true
first_written capacity all n bytes fewer room t =
    sym (ap are_written (pieces_fewer capacity n bytes (omega arith))) ∙ every_fewer is_row_bytes all n (pieces capacity bytes) fewer t

-- a row more
module _ (i : ℕ) (row : Fields) (bytes : List ℕ) (room : row_offset (i + 1) ≤ length bytes) (is : is_row row ≡ true) where
  pub rows_put_row : (n : ℕ) → image_rows n (put_row i (row_bytes row) bytes) ≡ set (image_rows n bytes) i row
  rows_put_row n =
      ap (map row_read) (pieces_put_row i (row_bytes row) bytes room (rows_read_back.wide row is) n)
      ∙ (map-set row_read (pieces n bytes) i (row_bytes row) ∙ ap (set (image_rows n bytes) i) (rows_read_back.read_back row is))

  pub written_put_row : (n : ℕ) → i < n → are_written (take i (pieces n bytes)) ≡ true → are_written (take (i + 1) (pieces n (put_row i (row_bytes row) bytes))) ≡ true
  written_put_row n inside t =
      ap (λ (some : List (List ℕ)). are_written (take (i + 1) some)) (pieces_put_row i (row_bytes row) bytes room (rows_read_back.wide row is) n)
      ∙ every_more is_row_bytes i (pieces n bytes) (row_bytes row) (omega (arith, length_pieces n bytes)) (rows_read_back.is_written row is) t
