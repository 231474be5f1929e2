-- The refusals of the table in docs/RULES.md, "A peer's update arrives": the number of each, and the values that it carries, in their order.
use Rattle.std.specs.Prelude.{ℕ, List, [], ◌∷◌, Result, Ok, Err, codes}
use Rattle.error.specs.declared.{Refusal.Refusal}

unfoldable pub number : Refusal → ℕ
-- entry: our bytes unreadable
number Refusal.OurTransactionUnreadable = 1
-- entry: the peer's bytes unreadable
number Refusal.PeerTransactionUnreadable = 2
-- entry, records: a script, a lent list, a record, a hash or a table unreadable, the records not one per added input, or no such list or item
number Refusal.LentBytesUnreadable = 3
-- limits: size, added inputs, added outputs, added cell deps, added header deps
number Refusal.PeerFundingTxExceedsLimit = 4
-- comparison, a record not live, contribution
number Refusal.InvalidPeerFundingTx = 5
-- records: the lock is our source lock
number (Refusal.PeerInputUsesOurFundingLock index) = 6
-- contribution, funding cell: a figure or sum too wide
number Refusal.OverflowError = 7
-- contribution: the fee is too low
number (Refusal.PeerFundingFeeTooLow paid required rate size) = 8
-- token pick: the list ended short
number Refusal.InsufficientCells = 9
-- token pick: a total of 2^128 or more
number Refusal.TokenTotalOverflow = 10
-- dependencies: the token's deps, or the lock's dep, not supplied
number Refusal.MissingCellDep = 11
-- token pick: data under 16 bytes
number Refusal.TokenCellDataTooShort = 12
-- writing: over the lent buffer or 133,116 bytes
number Refusal.BufferTooShort = 13
-- holds: over 256 records
number Refusal.TooManyHolds = 14
-- exclusions: over 64 transactions or 512 out points
number Refusal.TooManyExclusions = 15

unfoldable pub values : Refusal → List ℕ
-- 6: the input's index among all inputs
values (Refusal.PeerInputUsesOurFundingLock index) = index ∷ []
-- 8: fee paid, fee required, rate, size
values (Refusal.PeerFundingFeeTooLow paid required rate size) = paid ∷ required ∷ rate ∷ size ∷ []
values Refusal.OurTransactionUnreadable = []
values Refusal.PeerTransactionUnreadable = []
values Refusal.LentBytesUnreadable = []
values Refusal.PeerFundingTxExceedsLimit = []
values Refusal.InvalidPeerFundingTx = []
values Refusal.OverflowError = []
values Refusal.InsufficientCells = []
values Refusal.TokenTotalOverflow = []
values Refusal.MissingCellDep = []
values Refusal.TokenCellDataTooShort = []
values Refusal.BufferTooShort = []
values Refusal.TooManyHolds = []
values Refusal.TooManyExclusions = []

-- an answer's number: 0 where the call is done
unfoldable pub answered : {T : Type 0} → Result T Refusal → ℕ
answered (Ok _) = 0
answered (Err why) = number why

-- the sentence of each, for people
unfoldable pub sentence : Refusal → List ℕ
sentence Refusal.OurTransactionUnreadable = codes "our own transaction's bytes are no transaction"
sentence Refusal.PeerTransactionUnreadable = codes "the peer's bytes are no transaction"
sentence Refusal.LentBytesUnreadable =
    codes "a lent script, list, record, hash or table is unreadable, the records are not one for each added input, or there is no such list or item"
sentence Refusal.PeerFundingTxExceedsLimit = codes "the peer's transaction is over the size limit, or adds too many inputs, outputs, cell deps or header deps"
sentence Refusal.InvalidPeerFundingTx = codes "the peer's funding transaction is invalid"
sentence (Refusal.PeerInputUsesOurFundingLock index) = codes "an input that the peer added spends a cell under our own source lock"
sentence Refusal.OverflowError = codes "a figure, or a sum of figures, is too wide"
sentence (Refusal.PeerFundingFeeTooLow paid required rate size) = codes "the fee is too low"
sentence Refusal.InsufficientCells = codes "the token cells ended before their total reached the wanted amount"
sentence Refusal.TokenTotalOverflow = codes "the total of the picked token cells is 2^128 or more"
sentence Refusal.MissingCellDep = codes "tokens were picked, and the token's cell deps or the lock's were not supplied"
sentence Refusal.TokenCellDataTooShort = codes "a token cell's data is under 16 bytes"
sentence Refusal.BufferTooShort = codes "the result is over the lent buffer, or over 133,116 bytes"
sentence Refusal.TooManyHolds = codes "the call would leave more than 256 hold records"
sentence Refusal.TooManyExclusions = codes "the call would leave more than 64 excluded transactions or 512 out points"
