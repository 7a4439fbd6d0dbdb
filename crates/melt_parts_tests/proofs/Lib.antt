mod Written
mod Gaps
mod WordAt
mod Testing
mod Lists
