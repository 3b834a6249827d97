-- A TEXT WRITTEN OUT, as the list of its bytes: what cases are stated with.
use Rattle.std.specs.Prelude.{List, [], ◌∷◌, ℕ}
use Prim.Native.Char.{code}
use Prim.Native.String as S

unfoldable pub bytes : S.String → List ℕ
bytes S.[] = []
bytes (S.◌∷◌ c rest) = code c ∷ bytes rest
