mod ChangesOfUser
mod FlatVerdicts
mod KeptRows
mod OwnRows
mod SameAnswers
mod SilentUser
mod UntouchedUser
mod UserLines
