-- Values of the types Day and Money by what they hold.
use Rattle.std.proofs.Common.{◌≡◌, Bool, true, ap, subst}
use mathlib.Core.Bool.{Bool-set}
use Rattle.values.specs.Days.{is_day}
use Rattle.values.specs.Money.{is_amount}
use Rattle.values.specs.Held.{ValuesHold}

-- what is made of a value that passes a test is told by that value
pub same_made : {X Y : Type 0} (test : X → Bool) (make : (x : X) → test x ≡ true → Y) (x y : X) (p : test x ≡ true) (q : test y ≡ true) → x ≡ y → make x p ≡ make y q
same_made {X = X} test make x y p q e = subst (λ (z : X). (t : test z ≡ true) → make x p ≡ make z t) e (λ t. ap (make x) (Bool-set _ _ p t)) q

pub values_hold : ValuesHold
values_hold =
    record {
      a_day = λ day. day.real;
      an_amount = λ money. money.few;
      same_days = λ one other. same_made is_day (λ bytes t. record { bytes = bytes; real = t }) one.bytes other.bytes one.real other.real;
      same_amounts = λ one other. same_made is_amount (λ z t. record { thousandths = z; few = t }) one.thousandths other.thousandths one.few other.few;
    }
