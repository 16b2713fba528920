-- Bytes cut every 256, and what a write to them leaves.
use Rattle.std.proofs.Common.{◌≡◌, ℕ, zero, suc, ◌+◌, ◌-◌, ◌*◌, ◌<◌, ◌≤◌, leb, List, [], ◌∷◌, ◌++◌, map, length, get_or, take, drop, set, sym, refl, ap, ◌∙◌, arith}
use borrow.Rule.Slice.PartMut.{put_mid}
use Rattle.std.proofs.lemmas.Bool.{cond_both, cond-true, le-leb, leb-true}
use Rattle.std.proofs.lemmas.List.{take_at, drop_at, drop-drop, take-take, length-drop, length-take-le, length-append, take-append-le, drop-append-le, drop-take, take-map, get_or-map}
use Rattle.rows.specs.declared.fields.Fields.{Fields}
use Rattle.cashbook.specs.Counting.{Figures}
use Rattle.rowbytes.specs.RowBytes.{row_read}
use Rattle.images.specs.Headers.{row_offset, header}
use Rattle.images.specs.Images.{cut, pieces, piece, image_rows, put_row, put_header}

pub length_cut : (n : ℕ) (bytes : List ℕ) → length (cut n bytes) ≡ n
unfolding cut
length_cut zero bytes = refl
length_cut (suc n) bytes = ap suc (length_cut n (drop 256 bytes))

-- piece i begins behind i pieces
pub cut_at : (n i : ℕ) (bytes : List ℕ) (d : List ℕ) → i < n → get_or (cut n bytes) i d ≡ take 256 (drop (i * 256) bytes)
unfolding cut
cut_at zero i bytes d inside = absurd (omega arith)
cut_at (suc n) zero bytes d inside = refl
cut_at (suc n) (suc i) bytes d inside = cut_at n i (drop 256 bytes) d (omega arith) ∙ ap (take 256) (drop-drop (i * 256) 256 bytes ∙ ap (λ k. drop k bytes) (omega arith))

-- a piece is replaced, the others stay
pub cut_put : (n i : ℕ) (bytes piece : List ℕ) → i * 256 + 256 ≤ length bytes → length piece ≡ 256 → cut n (take (i * 256) bytes ++ (piece ++ drop (i * 256 + 256) bytes)) ≡ set (cut n bytes) i piece
unfolding cut
cut_put zero i bytes piece room wide = refl
cut_put (suc n) zero bytes piece room wide =
    let first : take 256 (piece ++ drop 256 bytes) ≡ piece = take_at piece (drop 256 bytes) 256 wide in
    let rest : drop 256 (piece ++ drop 256 bytes) ≡ drop 256 bytes = drop_at piece (drop 256 bytes) 256 wide in
    cc
cut_put (suc n) (suc i) bytes piece room wide =
    let before : List ℕ = take (suc i * 256) bytes in
    let behind : List ℕ = piece ++ drop (suc i * 256 + 256) bytes in
    let long : length before ≡ suc i * 256 = length-take-le (suc i * 256) bytes (omega arith) in
    let first : take 256 (before ++ behind) ≡ take 256 bytes = take-append-le 256 before behind (omega arith) ∙ take-take 256 (suc i * 256) bytes (omega arith) in
    let skipped : drop 256 before ≡ take (i * 256) (drop 256 bytes) = ap (λ k. drop 256 (take k bytes)) (omega arith) ∙ drop-take 256 (i * 256) bytes in
    let last : drop (suc i * 256 + 256) bytes ≡ drop (i * 256 + 256) (drop 256 bytes) = ap (λ k. drop k bytes) (omega arith) ∙ sym (drop-drop (i * 256 + 256) 256 bytes) in
    let rest : drop 256 (before ++ behind) ≡ take (i * 256) (drop 256 bytes) ++ (piece ++ drop (i * 256 + 256) (drop 256 bytes)) =
    drop-append-le 256 before behind (omega arith) ∙ (ap (λ xs. xs ++ behind) skipped ∙ ap (λ xs. take (i * 256) (drop 256 bytes) ++ (piece ++ xs)) last) in
    let onward = cut_put n i (drop 256 bytes) piece (omega (arith, length-drop 256 bytes)) wide in
    ap (λ x. x ∷ cut n (drop 256 (before ++ behind))) first ∙ ap (λ xs. take 256 bytes ∷ xs) (ap (cut n) rest ∙ onward)

pub length_header : (f : Figures) → length (header f) ≡ 32
unfolding header
length_header f = refl

pub length_pieces : (n : ℕ) (bytes : List ℕ) → length (pieces n bytes) ≡ n
unfolding pieces
length_pieces n bytes = length_cut n (drop 32 bytes)

pub piece_at : (n i : ℕ) (bytes : List ℕ) (d : List ℕ) → i < n → get_or (pieces n bytes) i d ≡ piece i bytes
unfolding pieces
piece_at n i bytes d inside = cut_at n i (drop 32 bytes) d inside ∙ ap (take 256) (drop-drop (i * 256) 32 bytes)

-- the first pieces of more
cut_fewer : (n m : ℕ) (bytes : List ℕ) → m ≤ n → take m (cut n bytes) ≡ cut m bytes
unfolding cut
cut_fewer n zero bytes less = refl
cut_fewer zero (suc m) bytes less = absurd (omega arith)
cut_fewer (suc n) (suc m) bytes less = ap (λ rest. take 256 bytes ∷ rest) (cut_fewer n m (drop 256 bytes) (omega arith))

pub pieces_fewer : (n m : ℕ) (bytes : List ℕ) → m ≤ n → take m (pieces n bytes) ≡ pieces m bytes
unfolding pieces
pieces_fewer n m bytes less = cut_fewer n m (drop 32 bytes) less

pub rows_fewer : (n m : ℕ) (bytes : List ℕ) → m ≤ n → take m (image_rows n bytes) ≡ image_rows m bytes
rows_fewer n m bytes less = take-map row_read m (pieces n bytes) ∙ ap (map row_read) (pieces_fewer n m bytes less)

pub row_at : (n i : ℕ) (bytes : List ℕ) (d : Fields) → i < n → get_or (image_rows n bytes) i d ≡ row_read (piece i bytes)
row_at n i bytes d inside = get_or-map row_read (pieces n bytes) i [] d (omega (arith, length_pieces n bytes)) ∙ ap row_read (piece_at n i bytes [] inside)

-- what a write of 256 bytes at a row's offset leaves
pub put_row_is : (i : ℕ) (row bytes new : List ℕ) → new ≡ row → put_mid (row_offset i) (row_offset i + 256 - row_offset i) bytes new ≡ put_row i row bytes
put_row_is i row bytes new e =
    let wide : row_offset i + 256 - row_offset i ≡ 256 = omega arith in
    let last : drop 256 (drop (row_offset i) bytes) ≡ drop (row_offset (i + 1)) bytes = drop-drop 256 (row_offset i) bytes ∙ ap (λ k. drop k bytes) (omega arith) in
    ap (λ k. put_mid (row_offset i) k bytes new) wide ∙ (ap (λ xs. take (row_offset i) bytes ++ (new ++ xs)) last ∙ ap (λ xs. take (row_offset i) bytes ++ (xs ++ drop (row_offset (i + 1)) bytes)) e)

-- a row is replaced
module _ (i : ℕ) (row bytes : List ℕ) (room : row_offset (i + 1) ≤ length bytes) (wide : length row ≡ 256) where
  before_long : length (take (row_offset i) bytes) ≡ row_offset i
  before_long = length-take-le (row_offset i) bytes (omega arith)

  pub pieces_put_row : (n : ℕ) → pieces n (put_row i row bytes) ≡ set (pieces n bytes) i row
  unfolding pieces
  pieces_put_row n =
      let l = before_long in
      let behind : List ℕ = row ++ drop (row_offset (i + 1)) bytes in
      let last : drop (row_offset (i + 1)) bytes ≡ drop (i * 256 + 256) (drop 32 bytes) = ap (λ k. drop k bytes) (omega arith) ∙ sym (drop-drop (i * 256 + 256) 32 bytes) in
      let body : drop 32 (put_row i row bytes) ≡ take (i * 256) (drop 32 bytes) ++ (row ++ drop (i * 256 + 256) (drop 32 bytes)) =
      drop-append-le 32 (take (row_offset i) bytes) behind (omega arith) ∙ (ap (λ xs. xs ++ behind) (drop-take 32 (i * 256) bytes) ∙ ap (λ xs. take (i * 256) (drop 32 bytes) ++ (row ++ xs)) last) in
      ap (cut n) body ∙ cut_put n i (drop 32 bytes) row (omega (arith, length-drop 32 bytes)) wide

  pub head_put_row : take 32 (put_row i row bytes) ≡ take 32 bytes
  head_put_row =
      let l = before_long in
      take-append-le 32 (take (row_offset i) bytes) (row ++ drop (row_offset (i + 1)) bytes) (omega arith) ∙ take-take 32 (row_offset i) bytes (omega arith)

  pub length_put_row : length (put_row i row bytes) ≡ length bytes
  length_put_row =
      let l = before_long in
      length-append (take (row_offset i) bytes) (row ++ drop (row_offset (i + 1)) bytes) ∙ (let b = length-append row (drop (row_offset (i + 1)) bytes) in let d = length-drop (row_offset (i + 1)) bytes in omega arith)

-- the header is replaced
module _ (f : Figures) (bytes : List ℕ) where
  pub pieces_put_header : (n : ℕ) → pieces n (put_header f bytes) ≡ pieces n bytes
  unfolding pieces
  pieces_put_header n = ap (cut n) (cond_both (leb 32 (length bytes)) (header f ++ drop 32 bytes) bytes (λ (b : List ℕ). drop 32 b ≡ drop 32 bytes) (λ _. drop_at (header f) (drop 32 bytes) 32 (length_header f)) (λ _. refl))

  pub head_put_header : 32 ≤ length bytes → take 32 (put_header f bytes) ≡ header f
  head_put_header room = ap (take 32) (cond-true (leb 32 (length bytes)) (header f ++ drop 32 bytes) bytes (le-leb 32 (length bytes) room)) ∙ take_at (header f) (drop 32 bytes) 32 (length_header f)

  pub length_put_header : length (put_header f bytes) ≡ length bytes
  length_put_header =
      cond_both (leb 32 (length bytes)) (header f ++ drop 32 bytes) bytes (λ (b : List ℕ). length b ≡ length bytes)
      (λ t. length-append (header f) (drop 32 bytes) ∙ (let l = length_header f in let d = length-drop 32 bytes in let r = leb-true 32 (length bytes) t in omega arith))
      (λ _. refl)
