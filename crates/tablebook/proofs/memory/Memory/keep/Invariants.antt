use Rattle.std.proofs.Common.{◌≡◌, ◌≤◌, length, take}
use Rattle.tablebook.specs.Held.{placed}
use Rattle.tablebook.proofs.memory.Memory.keep.Given as goal

abbrev pub invariant-loop : goal.invariant-loop
invariant-loop l = record {
  counted : l.self.kept ≡ l.counter;
  within : l.counter ≤ l.end;
  rows : l.self.rows.now ≡ l.initial.self.rows.now;
  places : l.self.places.now ≡ placed (take l.counter l.initial.self.rows.now) l.initial.self.places.now;
  long : length l.self.places.now ≡ length l.initial.self.places.now;
}
