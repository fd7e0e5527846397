-- What each call refuses and makes, with a report by the call without one, and what so holds after every list of calls.
pub mod FirstThatHolds
pub mod CallRefusals
pub mod Carried
pub mod Reporting
pub mod EveryCall
pub mod Outcomes
pub mod ReportedCalls
pub mod Histories
