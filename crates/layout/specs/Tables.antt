-- What an entry of the code's tables stands for.
use Rattle.layout.specs.declared.form.Form.{Form}
use Rattle.layout.specs.declared.form.Form.TheVariants.{Digits, Text, Spaces, Day, DayOrZeros, Sign, Flag, Is, OneOf}
use Rattle.layout.specs.declared.tables.Field.{Field}
use Rattle.layout.specs.Forms as F
use Rattle.layout.specs.Layouts as L

abbrev pub form_of : Form → F.Form
form_of Digits = F.Digits
form_of Text = F.Text
form_of Spaces = F.Spaces
form_of Day = F.Day
form_of DayOrZeros = F.DayOrZeros
form_of Sign = F.Sign
form_of Flag = F.Flag
form_of (Is text) = F.Is text.now
form_of (OneOf choices) = F.OneOf choices.now

abbrev pub field_of : Field → L.Field
field_of f = L.field f.0 f.1 (form_of f.2)
