-- The limits of values, which expressions keep.
use Rattle.std.specs.Prelude.{◌≡◌, true}
use Rattle.yw_base.specs.Values.{is_small}
use Rattle.yw_base.specs.declared.value.Value.{Value}
use Rattle.yw_expr.specs.Tree.{Tree, constant, variable, function, unary, binary, element}

-- the value is within the limits
abbrev pub IsSmall : Value → Type 0
IsSmall v = is_small v ≡ true

-- each constant of the tree is within the limits
abbrev pub HasSmallConstants : Tree → Type 0
HasSmallConstants (constant v) = IsSmall v
HasSmallConstants (variable k s) = Unit {0}
HasSmallConstants (function f x) = HasSmallConstants x
HasSmallConstants (unary op x) = HasSmallConstants x
HasSmallConstants (binary op x y) = HasSmallConstants x × HasSmallConstants y
HasSmallConstants (element x k) = HasSmallConstants x × HasSmallConstants k
