-- How a token is handed out and back.
use Rattle.std.specs.Prelude.{ℕ, Ok, Err, Result}
use Rattle.session.specs.declared.fault.SessionFault.{SessionFault}
use Rattle.session.specs.declared.token.Token.{Token}

-- a hold answers a token that bears the depth
abbrev pub with_token : Result ℕ SessionFault → Result Token SessionFault
with_token (Ok depth) = Ok (record { depth = depth })
with_token (Err f) = Err f

-- a refusal hands the token back
abbrev pub handed_back : Token → Result (Unit {0}) SessionFault → Result (Unit {0}) (SessionFault × Token)
handed_back token (Ok u) = Ok u
handed_back token (Err f) = Err (f, token)

-- the depth that a token bears
abbrev pub borne : Result Token SessionFault → Result ℕ SessionFault
borne (Ok token) = Ok token.depth
borne (Err f) = Err f

-- the fault alone
abbrev pub kept_by : Result (Unit {0}) (SessionFault × Token) → Result (Unit {0}) SessionFault
kept_by (Ok u) = Ok u
kept_by (Err x) = Err x.0
