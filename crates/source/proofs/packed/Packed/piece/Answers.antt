use Rattle.std.proofs.Common.{◌*◌, arith}
use Rattle.std.proofs.lemmas.List.{take_rest}
use Rattle.source.proofs.Pieces.{length_pieces, piece_cut}
use Rattle.source.proofs.packed.Packed.piece.Goals as goal

pub overflow_mul-rest : goal.overflow_mul-rest
overflow_mul-rest c = omega (arith, length_pieces c.args.self.now.file.now)

pub slice_bounds-rest-count : goal.slice_bounds-rest-count
slice_bounds-rest-count c = omega (arith, length_pieces c.args.self.now.file.now)

pub slice_bounds-rest-start : goal.slice_bounds-rest-start
slice_bounds-rest-start c = omega (arith, length_pieces c.args.self.now.file.now)

pub returns : goal.returns
returns c =
    piece_cut c.args.self.now.file.now _ c.args.before c.min-stop.result (take_rest c.args.self.now.file.now (c.args.before * 128)) c.min-stop.ensures c.requires
